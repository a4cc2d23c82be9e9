-- The plain form of each kind of part.
use Rattle.std.proofs.Common.{◌≡◌, ℕ, List, rules, refl, ◌∙◌}
use Rattle.std.specs.declared.boxed.Box.{Box}
use Rattle.std.specs.declared.alloc.Global.{Global}
use Rattle.abi_bits.specs.Pairs.{Pair}
use Rattle.abi_bits.specs.Forbidden.{Item, items, tree, tree_of}
use Rattle.abi_bits.proofs.Trees.{items_made}
use Rattle.abi_bits.specs.declared.forbidden_values.ForbiddenValues.{ForbiddenValues}
use Rattle.abi_layout.specs.Trees.{sides}
use Rattle.abi_layout.specs.Shape.{scalar, raw, atom, fields, sum, repeated}
use Rattle.abi_layout.specs.PartView.{shape, shapes}
use Rattle.abi_layout.specs.declared.scalar.Scalar.{Scalar}
use Rattle.abi_layout.specs.declared.part.Compound.TheVariants as compound
use Rattle.abi_layout.specs.declared.part.Sort.{Sort}
use Rattle.abi_layout.specs.declared.part.SumLayout.{SumLayout}
use Rattle.abi_layout.specs.declared.part.PartField.{PartField}
use Rattle.abi_layout.specs.declared.part.Part.{Part, the_lemmas as part_lemmas}
use Rattle.abi_layout.specs.declared.part.Part.TheVariants as part

pub shape_scalar : (c : Scalar) → shape (part.Scalar c) ≡ atom (scalar c)
shape_scalar c = search (rules, part_lemmas)

pub shape_raw : (n : ℕ) (free : List Pair) (forbidden : ForbiddenValues) → shape (part.Raw n free forbidden) ≡ atom (raw n free (items forbidden))
shape_raw n free forbidden = search (rules, part_lemmas)

-- raw bytes whose forbidden values are made of items
pub raw_items : (n : ℕ) (told free : List Pair) (forbidden : ForbiddenValues) (its : List Item) → told ≡ free → tree forbidden ≡ tree_of its
    → shape (part.Raw n told forbidden) ≡ atom (raw n free its)
raw_items n told free forbidden its e q = shape_raw n told forbidden ∙ rw (e, q, items_made its) refl

pub shape_struct : (fs : List PartField) (n : ℕ) → shape (part.Struct fs n) ≡ fields compound.Struct n (shapes fs)
shape_struct fs n = search (rules, part_lemmas)

pub shape_array : (item : Box Part Global) (len n : ℕ) → shape (part.Array item len n) ≡ fields compound.Array n (repeated len (shape item.value))
shape_array item len n = search (rules, part_lemmas)

pub shape_sum : (names : Sort) (ok err : Box Part Global) (at : SumLayout) → shape (part.Sum names ok err at) ≡ sum names (sides (shape ok.value) (shape err.value)) at
shape_sum names ok err at = search (rules, part_lemmas)
