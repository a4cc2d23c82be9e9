use Rattle.std.proofs.Common.{◌≡◌, IsTrue, length, drop}
use Rattle.abi_bits.specs.Pairs.{are_below}
use Rattle.abi_det.specs.State.{put_pairs}
use Rattle.abi_det.proofs.determinant.put_pairs.Given as goal

abbrev pub invariant-loop-offset : goal.invariant-loop-offset
invariant-loop-offset l =
    (put_pairs (drop l.offset-index l.pairs) l.bytes ≡ put_pairs l.pairs l.fn.bytes)
    × IsTrue (are_below (length l.bytes) (drop l.offset-index l.pairs))
