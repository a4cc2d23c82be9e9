-- Which trees of JSON are descriptions, and of what type.
use Rattle.std.specs.Prelude.{ℕ, List, [], ◌∷◌, not, Option, Some, None, option_map, codes, if◌then◌else◌}
use Rattle.std.specs.Global.{Box}
use Rattle.serde_json.specs.Data.{Data, Items, null, boolean, number, string, array, object}
use Rattle.serde_json.specs.Find.{get, as_array}
use Rattle.abi_layout.specs.declared.desc.Desc.{Desc}
use Rattle.abi_layout.specs.declared.desc.Field.{Field}
use Rattle.abi_layout.specs.declared.desc.WrapKind.TheVariants as wrapper
use Rattle.abi_layout.specs.declared.desc.PointerKind.TheVariants as pointer
use Rattle.abi_layout.specs.Trees as trees
use Rattle.abi_layout.specs.Trees.{Tree, Named, Label, branches_of, sides}
use Rattle.abi_document.specs.Primitives.{prim_named, non_x_of}
use Rattle.abi_document.specs.Leaves.{no_niches_of, leaf_of}
use Rattle.abi_document.specs.Forms.{◌>>=◌, nested, by_name, has_only, sole_member, under, pair_of, all_of, name_of, long_of, word_of}

-- the version of a declaration, which is 0 where none is said
abbrev pub version_of : Option Data → Option ℕ
version_of None = Some 0
version_of (Some d) = word_of d

-- the alignment that is requested, if one is
abbrev pub align_of : Option Data → Option (Option ℕ)
align_of None = Some None
align_of (Some d) = option_map Some (long_of d)

abbrev pub struct_keys : List (List ℕ)
struct_keys = codes "name" ∷ codes "module" ∷ codes "fields" ∷ codes "version" ∷ codes "align" ∷ []

-- a field as plain data; the description in a box, and those in two
abbrev pub named : Field → Named
named f = (f.name, trees.tree f.ty)

abbrev pub boxed : Box Desc → Tree
boxed b = trees.tree b.value

abbrev pub both_boxed : Box Desc × Box Desc → Tree × Tree
both_boxed p = (boxed p.0, boxed p.1)

-- how what an object has under its one key is read
pub data Rule : Type 0 where
  -- no description stands there
  alone : (Data → Option Tree) → Rule
  -- a description
  one_sided : (Tree → Tree) → Rule
  -- an array of two descriptions
  two_sided : (Tree → Tree → Tree) → Rule
  array_rule : Rule
  struct_rule : Rule

unfoldable pub pointers : List (List ℕ × Rule)
pointers =
    (codes "const_ptr", one_sided (trees.pointer pointer.ConstPtr))
    ∷ (codes "mut_ptr", one_sided (trees.pointer pointer.MutPtr))
    ∷ (codes "atomic_ptr", one_sided (trees.pointer pointer.AtomicPtr))
    ∷ (codes "non_null", one_sided (trees.pointer pointer.NonNull))
    ∷ (codes "ref", one_sided (trees.pointer pointer.Ref))
    ∷ (codes "ref_mut", one_sided (trees.pointer pointer.RefMut)) ∷ []

-- what holds one description: sums, wrappers, pointers
unfoldable pub one_sided_forms : List (List ℕ × Rule)
one_sided_forms =
    (codes "option", one_sided trees.option)
    ∷ (codes "core_option", one_sided trees.core_option)
    ∷ (codes "manually_drop", one_sided (trees.wrap wrapper.ManuallyDrop))
    ∷ (codes "maybe_uninit", one_sided (trees.wrap wrapper.MaybeUninit))
    ∷ (codes "unsafe_cell", one_sided (trees.wrap wrapper.UnsafeCell))
    ∷ (codes "pin", one_sided (trees.wrap wrapper.Pin))
    ∷ (codes "not_pod", one_sided (trees.wrap wrapper.NotPod))
    ∷ (codes "or_infallible", one_sided (trees.wrap wrapper.OrInfallible)) ∷ pointers

abbrev pub forms : List (List ℕ × Rule)
forms =
    (codes "struct", struct_rule)
    ∷ (codes "array", array_rule)
    ∷ (codes "union", two_sided (λ ok err. trees.union (sides ok err)))
    ∷ (codes "result", two_sided trees.result)
    ∷ (codes "core_result", two_sided trees.core_result)
    ∷ (codes "stable_if", two_sided trees.stable_if)
    ∷ (codes "non_x", alone (λ d. option_map trees.prim (non_x_of d)))
    ∷ (codes "no_niches", alone no_niches_of)
    ∷ (codes "leaf", alone (λ d. option_map trees.leaf (leaf_of d))) ∷ one_sided_forms

-- `tree` tells the descriptions inside
module _ (tree : Data → Option Tree) where
  -- an array of a name and a description
  abbrev pub field_of : Data → Option Named
  field_of d = do
    pair ← pair_of d
    name ← name_of pair.0
    held ← tree pair.1
    Some (name, held)

  abbrev pub fields_of : Items → Option (List Named)
  fields_of ds = all_of field_of ds

  unfoldable pub struct_of : Data → Option Tree
  struct_of d = if not (has_only struct_keys d) then None else do
    name ← under (codes "name") name_of d
    module_name ← under (codes "module") name_of d
    version ← version_of (get (codes "version") d)
    align ← align_of (get (codes "align") d)
    fields ← under (codes "fields") as_array d >>= fields_of
    Some (trees.struct (record {
      name = name;
      module_name = module_name;
      version = version;
    }) (branches_of fields) align)

  -- an array of a description and how many
  abbrev pub array_of : Data → Option Tree
  array_of d = do
    pair ← pair_of d
    held ← tree pair.0
    len ← long_of pair.1
    Some (trees.array held len)

  -- an array of two descriptions
  abbrev pub pair_at : Data → Option (Tree × Tree)
  pair_at d = do
    pair ← pair_of d
    first ← tree pair.0
    second ← tree pair.1
    Some (first, second)

  -- what is read by the rule
  abbrev pub read_by : Rule → Data → Option Tree
  read_by (alone read) d = read d
  read_by (one_sided make) d = option_map make (tree d)
  read_by (two_sided make) d = option_map (λ pair. make pair.0 pair.1) (pair_at d)
  read_by array_rule d = array_of d
  read_by struct_rule d = struct_of d

  -- by what the table says of the key
  abbrev pub by_rule : List (List ℕ × Rule) → List ℕ → Data → Option Tree
  by_rule rules key content = by_name rules key >>= (λ rule. read_by rule content)

  abbrev pub pointer_of : List ℕ → Data → Option Tree
  pointer_of key content = by_rule pointers key content

  abbrev pub one_sided_of : List ℕ → Data → Option Tree
  one_sided_of key content = by_rule one_sided_forms key content

  unfoldable pub form_of : List ℕ → Data → Option Tree
  form_of key content = by_rule forms key content

  -- a primitive's name, or an object with one key that says what it is
  unfoldable pub desc_step : Data → Option Tree
  desc_step null = None
  desc_step (boolean b) = None
  desc_step (number n) = None
  desc_step (string s) = option_map trees.prim (prim_named s)
  desc_step (array ds) = None
  desc_step (object ms) = sole_member (object ms) >>= (λ member. form_of member.0 member.1)

-- a description that nests fewer than that many levels
abbrev pub desc_at : ℕ → Data → Option Tree
desc_at levels d = nested desc_step levels d
