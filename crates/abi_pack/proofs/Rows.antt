-- Equal fields in a row.
use Rattle.std.proofs.Common.{◌≡◌, ℕ, zero, suc, ◌+◌, ◌*◌, ◌-◌, ◌<◌, ◌≤◌, List, [], ◌∷◌, ◌++◌, length, Bool, true, false, refl, ap, ◌∙◌, ◌⊎◌, inl, inr, sym, arith}
use mathlib.Core.Path.{fun_ext}
use Rattle.abi_pack.specs.ByteMap.{ByteMap, seen_from}
use Rattle.abi_pack.specs.ValueShown.{value_shown, values_shown}
use Rattle.abi_pack.proofs.Offsets.{from_from, joined_end, joined_push}
use Rattle.abi_pack.specs.Plain.{Plains, list, end, more}
use Rattle.abi_layout.specs.Shape.{Shape, fields, field, size, size_in, repeated}
use Rattle.abi_pack.specs.Consistent.{IsConsistent, AreConsistent}
use Rattle.abi_pack.specs.Shows.{fits, fits_in}
use Rattle.abi_pack.specs.View.{shape, plain, plains, joined}
use Rattle.std.specs.declared.boxed.Box.{Box}
use Rattle.std.specs.declared.alloc.Global.{Global}
use Rattle.abi_layout.specs.declared.part.Compound.TheVariants as compound
use Rattle.abi_layout.specs.declared.part.Part.{Part}
use Rattle.abi_layout.specs.declared.part.Part.TheVariants as part
use Rattle.abi_pack.specs.declared.value.Value.{Value}
use Rattle.abi_pack.specs.declared.value.Value.TheVariants as value
use Rattle.abi_pack.proofs.Choice.{and_second, two_truths}
use Rattle.abi_pack.proofs.Views.{shape_array, plain_list}
use Rattle.abi_pack.proofs.Nodes.{nodes, nodes_in}

pub row_next : (n i : ℕ) (s : Shape) → i < n → repeated (n - i) s ≡ field 0 s (repeated (n - (i + 1)) s)
row_next n i s h = let e : n - i ≡ suc (n - (i + 1)) = omega arith in ap (λ m. repeated m s) e

pub row_size : (n : ℕ) (s : Shape) → size_in (repeated n s) ≡ n * size s
row_size zero s = omega arith
row_size (suc n) s = let rest : size_in (repeated n s) ≡ n * size s = row_size n s in omega arith

-- one of them takes no more bytes than all
pub row_one_size : (n : ℕ) (s : Shape) → 0 < n → size s ≤ size_in (repeated n s)
row_one_size zero s h = absurd (omega arith)
row_one_size (suc n) s h = omega arith

pub row_sound : (n : ℕ) (s : Shape) → 0 < n → AreConsistent (repeated n s) → IsConsistent s
row_sound zero s h sound = absurd (omega arith)
row_sound (suc n) s h sound = sound.0

pub row_nodes : (n : ℕ) (s : Shape) → 0 < n → nodes s < nodes_in (repeated n s)
row_nodes zero s h = absurd (omega arith)
row_nodes (suc n) s h = omega arith

-- as many values as fields
pub row_count : (n : ℕ) (s : Shape) (vs : List Value) → fits_in (repeated n s) (plains vs) ≡ true → n ≡ length vs
row_count zero s [] h = refl
row_count zero s (v ∷ vs) h = absurd (cc)
row_count (suc n) s [] h = absurd (cc)
row_count (suc n) s (v ∷ vs) h = ap suc (row_count n s vs (and_second (fits s _) _ h))

pub row_other_count : (n : ℕ) (s : Shape) (vs : List Value) → (length vs ≡ n → ⊥) → false ≡ fits_in (repeated n s) (plains vs)
row_other_count n s vs other = by_truth (fits_in (repeated n s) (plains vs)) (two_truths _) (λ h. other (sym (row_count n s vs h)))
  where
    by_truth : (p : Bool) → (p ≡ true) ⊎ (p ≡ false) → (p ≡ true → ⊥) → false ≡ p
    by_truth p (inl h) never = absurd (never h)
    by_truth p (inr h) never = sym h

-- ---- of an array's part

pub array_is : (p : Part) (one : Part) (item : Box Part Global) (len whole : ℕ) → p ≡ part.Array item len whole → one ≡ item.value → shape p ≡ fields compound.Array whole (repeated len (shape one))
array_is p one item len whole e same = rw (e, same) (shape_array item len whole)

-- the row has fewer nodes than the array, and an item fewer than the row
pub array_fewer : (p : Part) (one : Part) (item : Box Part Global) (len whole : ℕ) → p ≡ part.Array item len whole → one ≡ item.value → nodes_in (repeated len (shape one)) < nodes (shape p)
array_fewer p one item len whole e same = rw (array_is p one item len whole e same) (omega arith)

pub array_one : (p : Part) (one : Part) (item : Box Part Global) (len whole : ℕ) → p ≡ part.Array item len whole → one ≡ item.value → 0 < len
    → nodes (shape one) < nodes (shape p)
array_one p one item len whole e same some =
    let fewer : nodes (shape one) < nodes_in (repeated len (shape one)) = row_nodes len (shape one) some in
    rw (array_is p one item len whole e same) (omega arith)

-- ---- the items from one on

pub row_size_next : (n i : ℕ) (s : Shape) → i < n → size_in (repeated (n - i) s) ≡ size s + size_in (repeated (n - (i + 1)) s)
row_size_next n i s h = rw (row_next n i s h) (omega arith)

pub from_nothing : (f : ByteMap) → seen_from 0 f ≡ f
from_nothing f = fun_ext (λ i. ap f (omega arith))

told_next : (n i : ℕ) (s : Shape) (f : ByteMap) (o x y : ℕ) (v : Value) → i < n → x ≡ o → y ≡ o + size s → plain v ≡ value_shown s (seen_from x f)
    → values_shown (repeated (n - i) s) (seen_from o f) ≡ more (plain v) (values_shown (repeated (n - (i + 1)) s) (seen_from y f))
told_next n i s f o x y v h ex ey value = rw (row_next n i s h, value, from_from f x o 0 (omega arith), from_from f y o (0 + size s) (omega arith)) refl

pub row_told : (n i : ℕ) (s : Shape) (f : ByteMap) (o y : ℕ) (old pushed : List Value) (v : Value) (r : Plains) → i < n → y ≡ o + size s
    → pushed ≡ old ++ v ∷ [] → plain v ≡ value_shown s (seen_from o f) → joined old (values_shown (repeated (n - i) s) (seen_from o f)) ≡ r
    → joined pushed (values_shown (repeated (n - (i + 1)) s) (seen_from y f)) ≡ r
row_told n i s f o y old pushed v r h ey is value e =
    rw is (joined_push old v (values_shown (repeated (n - (i + 1)) s) (seen_from y f))) ∙ ap (joined old) (sym (told_next n i s f o o y v h refl ey value)) ∙ e

pub told_array : (vs old : List Value) (p one : Part) (item : Box Part Global) (len whole : ℕ) (f : ByteMap) → p ≡ part.Array item len whole → one ≡ item.value → old ≡ []
    → joined vs end ≡ joined old (values_shown (repeated len (shape one)) f) → plain (value.List vs) ≡ value_shown (shape p) f
told_array vs old p one item len whole f e same none is =
    plain_list vs ∙ ap list (sym (joined_end vs) ∙ rw none at is) ∙ sym (ap (λ s. value_shown s f) (array_is p one item len whole e same))
