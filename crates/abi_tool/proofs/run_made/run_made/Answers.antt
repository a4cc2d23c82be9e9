use Rattle.std.proofs.Common.{rules, ◌≡◌, ◌⊎◌}
use Rattle.abi_tool.specs.Answers.{Replies}
use Rattle.abi_tool.specs.Reply.{made_reply}
use Rattle.abi_tool.proofs.Made.{makes}
use Rattle.abi_tool.proofs.run_made.run_made.Goals as goal

pub returns-in-Ok-write_all-clause-makes : goal.returns-in-Ok-write_all-clause-makes
returns-in-Ok-write_all-clause-makes g c =
    let got = g.K.Sink.got c.args.sink.now in
    let went = g.K.Sink.got c.write_all.new.sink in
    let replied : Replies (made_reply c.args.count) got went c.code.result = search rules in
    let is : (c.code.result ≡ 0) ⊎ (c.code.result ≡ 3) ⊎ (c.code.result ≡ 8) = search rules in
    makes c.args.count got went c.code.result c.requires is replied
