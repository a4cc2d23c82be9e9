-- Which trees of JSON are edits, and which.
use Rattle.std.specs.Prelude.{ℕ, ◌<◌, ◌^◌, List, [], ◌∷◌, not, nat_lt, length, Option, Some, None, option_map, codes, if◌then◌else◌}
use Rattle.serde_json.specs.Data.{Data, Items, null, boolean, number, string, array, object}
use Rattle.serde_json.specs.Find.{as_array}
use Rattle.abi_pack.specs.EditLists.{PlainEdit}
use Rattle.abi_pack.specs.View.{plain}
use Rattle.abi_pack.specs.declared.step.Edit.{Edit}
use Rattle.abi_pack.specs.declared.step.Step.{Step}
use Rattle.abi_pack.specs.declared.step.Step.TheVariants as step
use Rattle.abi_document.specs.Forms.{◌>>=◌, by_name, by_key, has_only, sole_member, under, all_of, word_of}
use Rattle.abi_document.specs.Values.{value_at}

-- a document nests at most 127 levels, so its parts nest fewer than these
abbrev pub levels : ℕ
levels = 128

-- as many as packing takes
abbrev pub AreFew : {A : Type 0} → List A → Type 0
AreFew es = length es < 2 ^ 32

abbrev pub plain_edit : Edit → PlainEdit
plain_edit e = record { path = e.path; value = plain e.value }

-- steps into a variant
abbrev pub variants : List (List ℕ × Step)
variants = (codes "ok", step.Ok) ∷ (codes "err", step.Err) ∷ (codes "some", step.Some) ∷ []

-- steps by number, by the one key of an object
abbrev pub numbered : List (List ℕ × (Data → Option Step))
numbered =
    (codes "field", (λ d. option_map step.Field (word_of d)))
    ∷ (codes "item", (λ d. option_map step.Item (word_of d))) ∷ []

unfoldable pub step_of : Data → Option Step
step_of null = None
step_of (boolean b) = None
step_of (number n) = None
step_of (string s) = by_name variants s
step_of (array ds) = None
step_of (object ms) = sole_member (object ms) >>= (λ m. by_key numbered m.0 m.1)

abbrev pub steps_of : Items → Option (List Step)
steps_of ds = all_of step_of ds

abbrev pub path_in : Data → Option (List Step)
path_in d = under (codes "path") as_array d >>= steps_of

-- an object of a path and the value that is to stand there
unfoldable pub edit_of : Data → Option PlainEdit
edit_of d = if not (has_only (codes "path" ∷ codes "value" ∷ []) d) then None else do
  path ← path_in d
  value ← under (codes "value") (value_at levels) d
  Some (record { path = path; value = value })

abbrev pub each_edit : Items → Option (List PlainEdit)
each_edit ds = all_of edit_of ds

abbrev pub few_of : Option (List PlainEdit) → Option (List PlainEdit)
few_of found = found >>= (λ es. if nat_lt (length es) (2 ^ 32) then Some es else None)

-- an array of fewer than 2^32 edits
abbrev pub edits_of : Data → Option (List PlainEdit)
edits_of d = few_of (as_array d >>= each_edit)
