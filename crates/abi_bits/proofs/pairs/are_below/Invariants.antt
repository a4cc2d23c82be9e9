use Rattle.std.proofs.Common.{◌≡◌, drop}
use Rattle.abi_bits.specs.Pairs.{are_below}
use Rattle.abi_bits.proofs.pairs.are_below.Given as goal

abbrev pub invariant-loop-offset : goal.invariant-loop-offset
invariant-loop-offset l = are_below l.size l.pairs ≡ are_below l.size (drop l.offset-index l.pairs)
