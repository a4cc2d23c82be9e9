use Rattle.std.proofs.Common.{arith}
use Rattle.abi_pack.proofs.Steps.{sum_covered}
use Rattle.abi_pack.proofs.change.restore_variant.Goals as goal

pub restore-requires-clause-covered : goal.restore-requires-clause-covered
restore-requires-clause-covered c =
    sum_covered c.args.part.now c.in-Sum.names c.in-Sum.ok c.in-Sum.err c.in-Sum.sum_layout _ c.in-Sum.is c.requires.sound (omega (arith, c.requires.room))
