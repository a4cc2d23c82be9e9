use Rattle.std.proofs.Common.{rules, refl}
use Rattle.abi_det.proofs.Unions.{sum_made, sum_lawful}
use Rattle.abi_det.proofs.sum.raw_sum.Goals as goal

pub returns-clause-same : goal.returns-clause-same
returns-clause-same c =
    sum_made c.args.ok.now c.args.err.now c.args.p.now _ (search rules) c.sum_align.ensures.same refl (search rules) refl (search rules)

pub returns-clause-lawful : goal.returns-clause-lawful
returns-clause-lawful c =
    sum_lawful c.args.ok.now c.args.err.now _ c.args.p.now (returns-clause-same c) c.requires.placed c.union_size.ensures.lawful.0 c.union_size.ensures.lawful.1 c.requires.small
