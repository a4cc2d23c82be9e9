-- Which trees of JSON are types that are described by their layout alone, and which.
use Rattle.std.specs.Prelude.{ℕ, List, [], ◌∷◌, not, Option, Some, None, option_map, codes, if◌then◌else◌}
use Rattle.serde_json.specs.Data.{Data, Items}
use Rattle.serde_json.specs.Find.{as_array, as_bool, as_str}
use Rattle.abi_bits.specs.Pairs.{Pair}
use Rattle.abi_bits.specs.declared.saturating_add_value.SaturatingAddValue.{SaturatingAddValue}
use Rattle.abi_bits.specs.declared.saturating_add_value.SaturatingAddValue.TheVariants as count
use Rattle.abi_layout.specs.declared.desc.Forbid.{Forbid}
use Rattle.abi_layout.specs.declared.desc.Forbid.TheVariants as forbid
use Rattle.abi_layout.specs.declared.desc.LeafDesc.{LeafDesc}
use Rattle.abi_layout.specs.Trees as trees
use Rattle.abi_layout.specs.Trees.{Tree}
use Rattle.abi_document.specs.declared.leaves.Outline.{Outline}
use Rattle.abi_document.specs.Forms.{◌>>=◌, by_name, by_key, has_only, sole_member, under, pair_of, triple_of, all_of, name_of, long_of, byte_of}

-- counts of niches by name
abbrev pub counts : List (List ℕ × SaturatingAddValue)
counts = (codes "none", count.B0) ∷ (codes "one", count.B1) ∷ (codes "many", count.Saturator) ∷ []

abbrev pub count_of : Data → Option SaturatingAddValue
count_of d = as_str d >>= by_name counts

-- size, alignment, count of niches, and whether there are pointers
abbrev pub outline_of : Data → Option Outline
outline_of d = do
  size ← under (codes "size") long_of d
  align ← under (codes "align") long_of d
  niches ← under (codes "niches") count_of d
  indirections ← under (codes "indirections") as_bool d
  Some (record { size = size; align = align; niches = niches; indirections = indirections })

abbrev pub no_niches_keys : List (List ℕ)
no_niches_keys = codes "size" ∷ codes "align" ∷ codes "niches" ∷ codes "indirections" ∷ []

unfoldable pub no_niches_of : Data → Option Tree
no_niches_of d = if not (has_only no_niches_keys d) then None else do
  outline ← outline_of d
  Some (trees.no_niches outline.size outline.align outline.niches outline.indirections)

-- an array of an offset and the mask or the value of the byte there
abbrev pub entry_of : Data → Option Pair
entry_of d = do
  pair ← pair_of d
  offset ← long_of pair.0
  byte ← byte_of pair.1
  Some (offset, byte)

abbrev pub entries_of : Items → Option (List Pair)
entries_of ds = all_of entry_of ds

-- the bytes of a pattern
abbrev pub pattern_of : Data → Option Forbid
pattern_of d = option_map forbid.Pattern (as_array d >>= entries_of)

-- an array of an offset, the least value there and the greatest
abbrev pub range_of : Data → Option Forbid
range_of d = do
  range ← triple_of d
  offset ← long_of range.0
  least ← byte_of range.1
  greatest ← byte_of range.2
  Some (forbid.Range offset least greatest)

-- what a leaf forbids, by the one key of an object
abbrev pub forbids : List (List ℕ × (Data → Option Forbid))
forbids = (codes "pattern", pattern_of) ∷ (codes "range", range_of) ∷ []

unfoldable pub forbid_of : Data → Option Forbid
forbid_of d = sole_member d >>= (λ m. by_key forbids m.0 m.1)

abbrev pub forbids_of : Items → Option (List Forbid)
forbids_of ds = all_of forbid_of ds

abbrev pub free_in : Data → Option (List Pair)
free_in d = under (codes "free") as_array d >>= entries_of

abbrev pub forbidden_in : Data → Option (List Forbid)
forbidden_in d = under (codes "forbidden") as_array d >>= forbids_of

abbrev pub leaf_keys : List (List ℕ)
leaf_keys =
    codes "name" ∷ codes "module" ∷ codes "size" ∷ codes "align" ∷ codes "free" ∷ codes "forbidden"
    ∷ codes "niches" ∷ codes "indirections" ∷ []

unfoldable pub leaf_of : Data → Option LeafDesc
leaf_of d = if not (has_only leaf_keys d) then None else do
  name ← under (codes "name") name_of d
  module_name ← under (codes "module") name_of d
  outline ← outline_of d
  free ← free_in d
  forbidden ← forbidden_in d
  Some (record {
    name = name;
    «module» = module_name;
    size = outline.size;
    align = outline.align;
    free = free;
    forbidden = forbidden;
    niches = outline.niches;
    indirections = outline.indirections;
  })
