use Rattle.std.proofs.Common.{◌≡◌, IsTrue, length, drop}
use Rattle.abi_bits.specs.Pairs.{are_below}
use Rattle.abi_pack.specs.ShapeEdits.{bytes_from, put_inside}
use Rattle.abi_pack.proofs.restore.put_inside.Given as goal

abbrev pub invariant-loop-offset : goal.invariant-loop-offset
invariant-loop-offset l =
    IsTrue (are_below (length l.out) (drop l.offset-index l.pairs))
    × (put_inside (bytes_from l.range.start l.range.size) (drop l.offset-index l.pairs) l.out ≡ put_inside (bytes_from l.range.start l.range.size) l.pairs l.fn.out)
