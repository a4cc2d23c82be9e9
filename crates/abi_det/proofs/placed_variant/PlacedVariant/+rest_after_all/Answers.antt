use Rattle.std.proofs.Common.{option_map}
use Rattle.abi_det.specs.Roles.{union_byte}
use Rattle.abi_det.proofs.Blocking.{rest_of_both, none_of_both}
use Rattle.abi_det.proofs.placed_variant.PlacedVariant.+rest_after_all.Goals as goal

pub returns-in-Some : goal.returns-in-Some
returns-in-Some t c =
    rest_of_both (union_byte c.args.self.now.variant.now c.args.self.now.shift c.args.self.now.size) c.args.by c.args.values.now c.in-Or.left c.in-Or.right c.args.offsets.now
    c.in-Some.rest.now (option_map (λ rest. rest.now) c.rest_after_all-in-Some.result)
    c.in-Or.is (rw c.deref.ensures at c.in-Some.ensures) (rw c.deref-in-Some.ensures at c.rest_after_all-in-Some.ensures)

pub returns-in-None : goal.returns-in-None
returns-in-None t c =
    none_of_both (union_byte c.args.self.now.variant.now c.args.self.now.shift c.args.self.now.size) c.args.by c.args.values.now c.in-Or.left c.in-Or.right c.args.offsets.now
    c.in-Or.is (rw c.deref.ensures at c.in-None.ensures)
