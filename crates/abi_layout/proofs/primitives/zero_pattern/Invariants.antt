use Rattle.std.proofs.Common.{◌≡◌}
use Rattle.abi_layout.specs.Prims.{zero_bytes}
use Rattle.abi_layout.proofs.primitives.zero_pattern.Given as goal

abbrev pub invariant-loop-at : goal.invariant-loop-at
invariant-loop-at l = l.pairs ≡ zero_bytes l.at
