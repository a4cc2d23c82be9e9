use Rattle.std.proofs.Common.{◌≡◌, ◌&&◌, drop}
use Rattle.abi_bits.specs.Pairs.{are_bytes}
use Rattle.abi_layout.specs.Leaves.{rise}
use Rattle.abi_layout.proofs.leaves.rise.Given as goal

-- what is left of the pairs decides
abbrev pub invariant-loop-offset : goal.invariant-loop-offset
invariant-loop-offset l =
    (rise l.size 0 l.pairs && are_bytes l.pairs) ≡ (rise l.size l.least (drop l.offset-index l.pairs) && are_bytes (drop l.offset-index l.pairs))
