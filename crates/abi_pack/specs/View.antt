-- Parts of a plan and values as plain data.
use Rattle.std.specs.Prelude.{◌≡◌, ℕ, List, [], ◌∷◌, true, false, map}
use Rattle.abi_pack.specs.Plain.{Plain, Plains, unit, integer, boolean, order, bytes, list, variant, end, more}
use Rattle.abi_layout.specs.declared.part.Sort.TheVariants as sort
use Rattle.abi_pack.specs.declared.value.Value.{Value, fold-Value}
use Rattle.abi_pack.specs.declared.layers.Variant.{Variant}
use Rattle.abi_pack.specs.declared.value.Value.TheOpen.{Value-F}
use Rattle.abi_layout.specs.Shape.{Shapes, repeated}
use Rattle.abi_layout.specs.declared.part.Part.{Part}
pub use Rattle.abi_layout.specs.PartView.{shape, shapes}

-- the items of an array, as fields
abbrev pub items_of : ℕ → Part → Shapes
items_of len item = repeated len (shape item)

abbrev pub plains_of : List Plain → Plains
plains_of [] = end
plains_of (v ∷ vs) = more v (plains_of vs)

abbrev pub value_step : Value-F Plain → Plain
value_step Value-F.Unit = unit
value_step (Value-F.Int magnitude negative) = integer magnitude negative
value_step (Value-F.Bool b) = boolean b
value_step (Value-F.Order o) = order o
value_step (Value-F.Bytes xs) = bytes xs
value_step (Value-F.List vs) = list (plains_of vs)
value_step (Value-F.Ok v) = variant sort.OfResult true v.value
value_step (Value-F.Err v) = variant sort.OfResult false v.value
value_step (Value-F.Some v) = variant sort.OfOption true v.value
value_step Value-F.None = variant sort.OfOption false unit

abbrev pub plain : Value → Plain
plain = fold-Value Plain value_step

abbrev pub plains : List Value → Plains
plains vs = plains_of (map plain vs)

-- values in front of others
abbrev pub joined : List Value → Plains → Plains
joined [] rest = rest
joined (v ∷ vs) rest = more (plain v) (joined vs rest)

-- the value is this variant
abbrev pub IsVariant : Plain → Variant → Type 0
IsVariant v found = v ≡ variant found.names found.first (plain found.payload.now)
