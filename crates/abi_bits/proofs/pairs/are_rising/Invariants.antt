use Rattle.std.proofs.Common.{◌≡◌, ◌≤◌, drop}
use Rattle.abi_bits.specs.Pairs.{are_rising}
use Rattle.abi_bits.proofs.pairs.are_rising.Given as goal

abbrev pub invariant-loop-offset : goal.invariant-loop-offset
invariant-loop-offset l = (l.least ≤ 1048576) × (are_rising 0 l.pairs ≡ are_rising l.least (drop l.offset-index l.pairs))
