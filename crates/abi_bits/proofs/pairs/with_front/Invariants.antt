use Rattle.std.proofs.Common.{◌≡◌, ◌∷◌, ◌++◌, drop}
use Rattle.abi_bits.proofs.pairs.with_front.Given as goal

abbrev pub invariant-loop-offset : goal.invariant-loop-offset
invariant-loop-offset l = l.all ++ drop l.offset-index l.pairs ≡ l.fn.front ∷ l.pairs
