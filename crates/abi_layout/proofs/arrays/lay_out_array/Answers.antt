use Rattle.std.proofs.Common.{arith}
use Rattle.abi_layout.proofs.Repeating.{array_large, array_named}
use Rattle.abi_layout.proofs.arrays.lay_out_array.Goals as goal

pub returns-then-size-len-gt-MAX_SIZE-clause-err : goal.returns-then-size-len-gt-MAX_SIZE-clause-err
returns-then-size-len-gt-MAX_SIZE-clause-err c =
    λ ne. array_large c.args.item.next c.args.item.layout c.args.len (omega (arith, c.if-len-gt-MAX_LEN.false))
    (rw c.size.ensures.same at c.if-size-len-gt-MAX_SIZE.true)

pub returns-clause-named : goal.returns-clause-named
returns-clause-named c = array_named _ _ _ c.args.len c.in_ok-array.ensures c.requires.named
