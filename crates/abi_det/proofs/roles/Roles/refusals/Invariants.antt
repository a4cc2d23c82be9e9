use Rattle.std.proofs.Common.{◌≡◌}
use Rattle.abi_det.specs.Written.{refusals_below}
use Rattle.abi_det.proofs.roles.Roles.refusals.Given as goal

abbrev pub invariant-loop-place : goal.invariant-loop-place
invariant-loop-place l = l.refusals ≡ refusals_below l.self.large l.self.small l.self.size l.place
