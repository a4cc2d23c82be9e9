-- Which trees of JSON are values, and which.
use Rattle.std.specs.Prelude.{ℕ, List, [], ◌∷◌, Bool, true, false, Option, Some, option_map, codes}
use Rattle.std.specs.Global.{Box}
use Rattle.std.specs.declared.cmp.Ordering.TheVariants as ordering
use Rattle.serde_json.specs.Data.{Data, null, boolean, number, string, array, object}
use Rattle.abi_det.specs.Offers.{or_else}
use Rattle.abi_pack.specs.Plain as plain
use Rattle.abi_pack.specs.Plain.{Plain, unit, list, variant}
use Rattle.abi_pack.specs.View as view
use Rattle.abi_pack.specs.View.{plains_of}
use Rattle.abi_layout.specs.declared.part.Sort.{Sort}
use Rattle.abi_layout.specs.declared.part.Sort.TheVariants as sort
use Rattle.abi_pack.specs.declared.value.Value.{Value}
use Rattle.abi_document.specs.Forms.{◌>>=◌, nested, by_name, by_key, sole_member, all_of, bytes_of}
use Rattle.abi_document.specs.Integers.{Signed, integer_number, integer_text}

abbrev pub words : List (List ℕ × Plain)
words =
    (codes "none", variant sort.OfOption false unit)
    ∷ (codes "less", plain.order ordering.Less)
    ∷ (codes "equal", plain.order ordering.Equal)
    ∷ (codes "greater", plain.order ordering.Greater) ∷ []

abbrev pub integer : Signed → Plain
integer n = plain.integer n.0 n.1

-- one of the words, or an integer
unfoldable pub text_value : List ℕ → Option Plain
text_value text = or_else (by_name words text) (option_map integer (integer_text text))

-- the value in a box
abbrev pub boxed : Box Value → Plain
boxed b = view.plain b.value

-- `value` tells the values inside
module _ (value : Data → Option Plain) where
  abbrev pub variant_of : Sort → Bool → Data → Option Plain
  variant_of names first d = option_map (variant names first) (value d)

  -- by the one key of an object
  abbrev pub forms : List (List ℕ × (Data → Option Plain))
  forms =
      (codes "ok", variant_of sort.OfResult true)
      ∷ (codes "err", variant_of sort.OfResult false)
      ∷ (codes "some", variant_of sort.OfOption true)
      ∷ (codes "bytes", (λ d. option_map plain.bytes (bytes_of d))) ∷ []

  unfoldable pub form_of : List ℕ → Data → Option Plain
  form_of key content = by_key forms key content

  unfoldable pub value_step : Data → Option Plain
  value_step null = Some unit
  value_step (boolean b) = Some (plain.boolean b)
  value_step (number n) = option_map integer (integer_number n)
  value_step (string s) = text_value s
  value_step (array ds) = option_map (λ vs. list (plains_of vs)) (all_of value ds)
  value_step (object ms) = sole_member (object ms) >>= (λ member. form_of member.0 member.1)

-- a value that nests fewer than that many levels
abbrev pub value_at : ℕ → Data → Option Plain
value_at levels d = nested value_step levels d
