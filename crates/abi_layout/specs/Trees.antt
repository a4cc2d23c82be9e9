-- Descriptions as plain trees.
use Rattle.std.specs.Prelude.{ℕ, ◌+◌, List, [], ◌∷◌, Bool, true, false, Option, map, if◌then◌else◌}
use Rattle.abi_bits.specs.Forbidden.{Item, pattern, range}
use Rattle.abi_bits.specs.declared.saturating_add_value.SaturatingAddValue.{SaturatingAddValue}
use Rattle.abi_layout.specs.declared.prim.Primitive.{Primitive}
use Rattle.abi_layout.specs.declared.prim.Primitive.TheVariants as primitive
use Rattle.abi_layout.specs.declared.part.Sort.{Sort}
use Rattle.abi_layout.specs.declared.part.Sort.TheVariants as sort
use Rattle.abi_layout.specs.declared.desc.Desc.{Desc, fold-Desc}
use Rattle.abi_layout.specs.declared.desc.Desc.TheOpen.{Desc-F, Field-F}
use Rattle.abi_layout.specs.declared.desc.Field.{Field}
use Rattle.abi_layout.specs.declared.desc.Forbid.{Forbid}
use Rattle.abi_layout.specs.declared.desc.Forbid.TheVariants as forbid
use Rattle.abi_layout.specs.declared.desc.LeafDesc.{LeafDesc}
use Rattle.abi_layout.specs.declared.desc.WrapKind.{WrapKind}
use Rattle.abi_layout.specs.declared.desc.PointerKind.{PointerKind}

-- what a struct's declaration says beside its fields
pub record Label : Type 0 where
  pub name : List ℕ
  pub module_name : List ℕ
  pub version : ℕ

mutual
  pub data Tree : Type 0 where
    prim : Primitive → Tree
    struct : Label → Branches → Option ℕ → Tree
    -- the item, and how many
    array : Tree → ℕ → Tree
    -- the first and the second of two in the same bytes
    union : (Bool → Tree) → Tree
    -- a packed sum: what its variants are called, and what each holds; `Ok` and `Some` are the first, and `None` holds `()`
    sum : Sort → (Bool → Tree) → Tree
    -- a sum of the same form, as the compiler lays it out
    core : Sort → (Bool → Tree) → Tree
    wrap : WrapKind → Tree → Tree
    -- the value, and its condition
    stable_if : Tree → Tree → Tree
    pointer : PointerKind → Tree → Tree
    -- size and alignment in bytes, count of niches, and whether there are pointers
    no_niches : ℕ → ℕ → SaturatingAddValue → Bool → Tree
    leaf : LeafDesc → Tree

  pub data Branches : Type 0 where
    none : Branches
    field : List ℕ → Tree → Branches → Branches

-- the first of two, or the second
abbrev pub sides : {A : Type 0} → A → A → Bool → A
sides a b first = if first then a else b

-- for those who write a tree down
abbrev pub result : Tree → Tree → Tree
result ok err = sum sort.OfResult (sides ok err)

abbrev pub option : Tree → Tree
option some = sum sort.OfOption (sides some (prim primitive.Unit))

abbrev pub core_result : Tree → Tree → Tree
core_result ok err = core sort.OfResult (sides ok err)

abbrev pub core_option : Tree → Tree
core_option some = core sort.OfOption (sides some (prim primitive.Unit))

-- a field's name and tree
abbrev pub Named : Type 0
Named = List ℕ × Tree

abbrev pub branches_of : List Named → Branches
branches_of [] = none
branches_of (f ∷ fs) = field f.0 f.1 (branches_of fs)

abbrev pub field_step : Field-F Tree Named → Named
field_step f = (f.name, f.ty)

abbrev pub desc_step : Desc-F Tree Named → Tree
desc_step (Desc-F.Prim p) = prim p
desc_step (Desc-F.Struct name «module» version fields align) =
    struct (record { name = name; module_name = «module»; version = version }) (branches_of fields)
    align
desc_step (Desc-F.Array item len) = array item.value len
desc_step (Desc-F.Union ok err) = union (sides ok.value err.value)
desc_step (Desc-F.Result ok err) = result ok.value err.value
desc_step (Desc-F.Option some) = option some.value
desc_step (Desc-F.CoreOption some) = core_option some.value
desc_step (Desc-F.CoreResult ok err) = core_result ok.value err.value
desc_step (Desc-F.Wrap kind inner) = wrap kind inner.value
desc_step (Desc-F.StableIf value cond) = stable_if value.value cond.value
desc_step (Desc-F.Pointer kind pointee) = pointer kind pointee.value
desc_step (Desc-F.NoNiches size align niches indirections) =
    no_niches size align niches indirections
desc_step (Desc-F.Leaf l) = leaf l

abbrev pub tree : Desc → Tree
tree = fold-Desc Tree Named desc_step field_step

abbrev pub branches : List Field → Branches
branches fs = branches_of (map (λ f. (f.name, tree f.ty)) fs)

-- what an item of a leaf forbids
abbrev pub item_of : Forbid → Item
item_of (forbid.Pattern ps) = pattern ps
item_of (forbid.Range at least greatest) = range at least greatest

-- what a leaf forbids, in order
abbrev pub leaf_items : LeafDesc → List Item
leaf_items l = map item_of l.forbidden

-- the number of parts of both variants: `()` is none of an option's
abbrev pub variant_parts : Sort → ℕ → ℕ → ℕ
variant_parts sort.OfResult a b = a + b
variant_parts sort.OfOption a b = a

-- the number of parts
abbrev mutual
  pub parts : Tree → ℕ
  parts (prim p) = 1
  parts (struct label fs align) = parts_in fs + 1
  parts (array item len) = parts item + 1
  parts (union side) = parts (side true) + parts (side false) + 1
  parts (sum names side) = variant_parts names (parts (side true)) (parts (side false)) + 1
  parts (core names side) = variant_parts names (parts (side true)) (parts (side false)) + 1
  parts (wrap kind t) = parts t + 1
  parts (stable_if value condition) = parts value + parts condition + 1
  parts (pointer kind t) = parts t + 1
  parts (no_niches size align niches indirections) = 1
  parts (leaf l) = 1

  pub parts_in : Branches → ℕ
  parts_in none = 0
  parts_in (field name t fs) = parts t + parts_in fs
