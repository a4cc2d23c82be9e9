use Rattle.std.proofs.Common.{◌≡◌, map}
use Rattle.abi_layout.specs.Trees.{tree}
use Rattle.abi_document.specs.Made.{made_fields}
use Rattle.abi_document.proofs.made.made_fields.Given as goal

abbrev pub invariant-fields : goal.invariant-fields
invariant-fields l = map (λ f. (f.name, tree f.ty)) l.fields ≡ made_fields l.i
