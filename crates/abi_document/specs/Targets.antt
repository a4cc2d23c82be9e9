-- Which trees of JSON are targets, and which.
use Rattle.std.specs.Prelude.{ℕ, List, [], ◌∷◌, not, Option, Some, None, codes, if◌then◌else◌}
use Rattle.serde_json.specs.Data.{Data, null, boolean, number, string, array, object}
use Rattle.serde_json.specs.Find.{as_bool}
use Rattle.abi_num.specs.declared.target.Target.{Target}
use Rattle.abi_num.specs.Target.{named}
use Rattle.abi_document.specs.Forms.{◌>>=◌, has_only, under, long_of}

abbrev pub target_keys : List (List ℕ)
target_keys = codes "little" ∷ codes "pointer" ∷ codes "u64_align" ∷ codes "u128_align" ∷ []

-- an object of the four fields of a target, which may be those of no supported one
abbrev pub fields_of : Data → Option Target
fields_of d = if not (has_only target_keys d) then None else do
  little ← under (codes "little") as_bool d
  pointer ← under (codes "pointer") long_of d
  u64_align ← under (codes "u64_align") long_of d
  u128_align ← under (codes "u128_align") long_of d
  Some (record {
    little = little;
    pointer = pointer;
    u64_align = u64_align;
    u128_align = u128_align;
  })

-- the name of a supported target, or four fields
unfoldable pub target_of : Data → Option Target
target_of null = None
target_of (boolean b) = None
target_of (number n) = None
target_of (string s) = named s
target_of (array ds) = None
target_of (object ms) = fields_of (object ms)
