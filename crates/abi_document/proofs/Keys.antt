-- Keys of an object.
use Rattle.std.proofs.Common.{◌≡◌, ◌∷◌, [], List, ℕ, Bool, ◌&&◌, ◌||◌, map, length, string_bytes, refl, sym, ap, ◌∙◌, Some, None, Bor}
use Rattle.std.specs.List.{list_any}
use Rattle.std.specs.Str.{bytes_eq}
use Rattle.std.specs.Map.{keys_of}
use Rattle.std.specs.Prelude.{String}
use Rattle.std.specs.declared.alloc.Global.{Global}
use Rattle.serde_json.specs.declared.value.Value.{Value}
use Rattle.serde_json.specs.Data.{Data}
use Rattle.serde_json.specs.Find.{as_object}
use Rattle.serde_json.specs.View.{members_view}
use Rattle.abi_document.specs.Forms.{is_listed, all_listed, keys_listed, has_only, only_one, sole_member}

pub listed : (names : List (Bor (List ℕ))) (key : List ℕ) → list_any (λ y. bytes_eq y.now key) names ≡ is_listed (map (λ n. n.now) names) key
listed [] key = refl
listed (n ∷ ns) key = ap (λ b. bytes_eq n.now key || b) (listed ns key)

keys_all : (names : List (List ℕ)) (es : List (String Global × Value)) → all_listed names (keys_of es) ≡ keys_listed names (members_view es)
keys_all names [] = refl
keys_all names (e ∷ es) = ap (λ b. is_listed names (string_bytes e.0) && b) (keys_all names es)

pub keys_within : (names : List (List ℕ)) (es : List (String Global × Value)) (d : Data) (b : Bool) → b ≡ all_listed names (keys_of es)
    → Some (members_view es) ≡ as_object d → b ≡ has_only names d
keys_within names es d b all e = rw (sym e) (all ∙ keys_all names es)

not_one : (es : List (String Global × Value)) → (length es ≡ 1 → ⊥) → None ≡ only_one (members_view es)
not_one [] other = refl
not_one (e ∷ []) other = absurd (other refl)
not_one (e ∷ f ∷ es) other = refl

-- an object with no key, or with more than one
pub no_sole : (d : Data) (es : List (String Global × Value)) → Some (members_view es) ≡ as_object d → (length es ≡ 1 → ⊥) → None ≡ sole_member d
no_sole d es e other = rw (sym e) (not_one es other)
