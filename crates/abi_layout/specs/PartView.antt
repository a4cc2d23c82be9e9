-- Parts of a plan as plain data.
use Rattle.std.specs.Prelude.{ℕ, List, [], ◌∷◌, map}
use Rattle.abi_bits.specs.Forbidden.{items}
use Rattle.abi_layout.specs.Trees.{sides}
use Rattle.abi_layout.specs.Shape.{Shape, Shapes, scalar, raw, atom, fields, sum, last, field, repeated}
use Rattle.abi_layout.specs.declared.part.Compound.TheVariants as compound
use Rattle.abi_layout.specs.declared.part.PartField.{PartField}
use Rattle.abi_layout.specs.declared.part.Part.{Part, fold-Part}
use Rattle.abi_layout.specs.declared.part.Part.TheOpen.{Part-F, PartField-F}

-- the gap before a field, and the field
abbrev pub Behind : Type 0
Behind = ℕ × Shape

abbrev pub fields_of : List Behind → Shapes
fields_of [] = last
fields_of (f ∷ fs) = field f.0 f.1 (fields_of fs)

abbrev pub field_step : PartField-F Shape Behind → Behind
field_step f = (f.gap, f.part)

abbrev pub part_step : Part-F Shape Behind → Shape
part_step (Part-F.Scalar c) = atom (scalar c)
part_step (Part-F.Raw n free forbidden) = atom (raw n free (items forbidden))
part_step (Part-F.Struct fs n) = fields compound.Struct n (fields_of fs)
part_step (Part-F.Array item len n) = fields compound.Array n (repeated len item.value)
part_step (Part-F.Sum names ok err at) = sum names (sides ok.value err.value) at

abbrev pub shape : Part → Shape
shape = fold-Part Shape Behind part_step field_step

abbrev pub shapes : List PartField → Shapes
shapes fs = fields_of (map (λ f. (f.gap, shape f.part)) fs)
