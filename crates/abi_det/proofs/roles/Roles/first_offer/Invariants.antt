use Rattle.std.proofs.Common.{◌≡◌, None}
use Rattle.abi_det.specs.Offers.{first_offer}
use Rattle.abi_det.proofs.roles.Roles.first_offer.Given as goal

abbrev pub invariant-loop-place : goal.invariant-loop-place
invariant-loop-place l = first_offer l.rules l.self.large l.self.small l.self.size l.place ≡ None
