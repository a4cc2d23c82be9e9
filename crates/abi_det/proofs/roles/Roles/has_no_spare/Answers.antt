use Rattle.std.proofs.Common.{◌≡◌, ◌∙◌, Bool, true, false, not, is_some, refl}
use Rattle.abi_det.specs.Roles.{spare_byte}
use Rattle.abi_det.proofs.Blocking.{shared_if}
use Rattle.abi_det.proofs.roles.Roles.has_no_spare.Goals as goal

other_way : (a b : Bool) → a ≡ not b → b ≡ not a
other_way a true h = rw h refl
other_way a false h = rw h refl

pub returns : goal.returns
returns c =
    other_way (is_some c.next_spare.result) c.is_none.result c.is_none.ensures
    ∙ shared_if (spare_byte c.args.self.now.large c.args.self.now.small c.args.shift c.args.self.now.size) c.args.self.now.size c.next_spare.result c.next_spare.ensures.next
