use Rattle.std.proofs.Common.{◌∙◌}
use Rattle.abi_det.proofs.Unions.{sum_written}
use Rattle.abi_det.proofs.sum.sum_layout.Goals as goal

pub returns-clause-written : goal.returns-clause-written
returns-clause-written c = λ rules is.
    sum_written rules c.args.ok.now c.args.err.now c.in-Some.layout c.args.p.now (c.in-Some.ensures.same ∙ c.in_ok-raw.ensures.same) is
