use Rattle.std.proofs.Common.{rules, ◌∙◌}
use Rattle.abi_tool.proofs.ReplyToBytes.{told_too_long}
use Rattle.abi_tool.proofs.run_document.read_reply.Goals as goal

pub returns-in-Err-TooLong-clause-told : goal.returns-in-Err-TooLong-clause-told
returns-in-Err-TooLong-clause-told g c =
    told_too_long c.args.command _ _ c.from.result (c.in-Err-TooLong.ensures.too_long (search rules)) (c.from.ensures ∙ c.new.ensures.bytes)
