-- The bits that an edited value holds beside the bytes that the edit replaced are those that were held before.
use Rattle.std.proofs.Common.{◌≡◌, ℕ, zero, suc, ◌+◌, ◌-◌, ◌<◌, ◌≤◌, inl, inr, List, [], ◌∷◌, Bool, true, false, ◌||◌, Option, Some, None, refl, ap, ◌∙◌, sym, subst, arith}
use Rattle.abi_det.specs.State.{is_state_ok}
use Rattle.abi_layout.specs.Shape.{Shape, Shapes, atom, fields, sum, size}
use Rattle.abi_layout.specs.declared.part.Compound.{Compound}
use Rattle.abi_layout.specs.declared.part.Compound.TheVariants as compound
use Rattle.abi_layout.specs.declared.part.Sort.{Sort}
use Rattle.abi_layout.specs.declared.part.SumLayout.{SumLayout}
use Rattle.abi_pack.specs.ByteMap.{ByteMap, AreBytes, seen_from}
use Rattle.abi_pack.specs.Consistent.{IsConsistent}
use Rattle.abi_pack.specs.Edits.{IsOutside, set_in, variant_entered}
use Rattle.abi_pack.specs.Plain.{Plain, Plains, list, variant, end, more}
use Rattle.abi_pack.specs.ShapeEdits.{Inner, field_named, side_named, is_in, fault_by, shape_fault, bytes_from, inner_range, shape_range, value_at, edited_value}
use Rattle.abi_pack.specs.Shows.{Shows, ShowIn, holds, holds_in, held_at, start_of, holds_test}
use Rattle.abi_pack.specs.declared.step.Step.{Step}
use Rattle.abi_pack.specs.declared.step.Step.TheVariants as step
use Rattle.abi_pack.proofs.Agreed.{from_bytes}
use Rattle.abi_pack.proofs.Choice.{in_gap, in_field, behind_field, three_places}
use Rattle.abi_pack.proofs.Inners.{field_inner, field_of}
use Rattle.abi_pack.proofs.Patching.{found_variant}
use Rattle.abi_pack.proofs.TreeValues.{from_zero}

set_back : (vs : Plains) (n : ℕ) → set_in vs n (value_at vs n) ≡ vs
set_back end n = refl
set_back (more v vs) zero = refl
set_back (more v vs) (suc n) = ap (more v) (set_back vs n)

abbrev Keeps : List Step → Plain → Type 0
Keeps path w = (s : Shape) (v : Plain) (f : ByteMap) → IsConsistent s → AreBytes f → Shows s v f → shape_fault s f path w ≡ None
    → (i k : ℕ) → i < size s → IsOutside (shape_range s path) i → holds s (edited_value v path w) i k ≡ holds s v i k

-- beside a range in a part at o
back : (o start n i : ℕ) → o ≤ i → IsOutside (bytes_from (o + start) n) i → IsOutside (bytes_from start n) (i - o)
back o start n i g (inl h) = inl (omega (arith, h, g))
back o start n i g (inr h) = inr (omega (arith, h, g))

field_kept : (path : List Step) (w : Plain) → Keeps path w → (c : Compound) (n j : ℕ) (fs : Shapes) (vs : Plains) (f : ByteMap) (found : Option Inner) (i k : ℕ)
    → IsConsistent (fields c n fs) → AreBytes f → ShowIn fs vs f → field_named fs j 0 ≡ found
    → fault_by found true (λ inner. shape_fault inner.part (seen_from inner.start f) path w) ≡ None
    → IsOutside (inner_range (λ inner. shape_range inner.part path) found) i
    → holds_in fs (set_in vs j (edited_value (value_at vs j) path w)) i k ≡ holds_in fs vs i k
field_kept path w keep c n j fs vs f None i k sound b shown is ok out = absurd (cc)
field_kept path w keep c n j fs vs f (Some inner) i k sound b shown is ok out =
    let s : Shape = inner.part in
    let o : ℕ = inner.start in
    let u : Plain = value_at vs j in
    let v : Plain = edited_value u path w in
    let in_ = field_inner fs j 0 n inner sound.0 (omega (arith, sound.1)) is in
    let of = field_of fs vs j 0 inner f sound.0 b (subst (λ g. ShowIn fs vs g) (sym (from_zero f)) shown) is in
    three_places i o (size s)
    (λ h. of.elsewhere v i k (inl (omega (arith, h))))
    (λ g l. let there : 0 + i - o ≡ i - o = omega arith in
    of.here v i k (omega (arith, g)) (omega (arith, l)) ∙ ap (λ x. holds s v x k) there
    ∙ keep s u (seen_from o f) in_.sound (from_bytes o f b) of.shows ok (i - o) k (omega (arith, g, l)) (back o (shape_range s path).start (shape_range s path).size i g out)
    ∙ sym (ap (λ x. holds s u x k) there) ∙ sym (of.here u i k (omega (arith, g)) (omega (arith, l))) ∙ ap (λ x. holds_in fs x i k) (set_back vs j))
    (λ h. of.elsewhere v i k (inr (omega (arith, h))))

side_kept : (s : Shape) (v u : Plain) (o start n i k : ℕ) → ((j : ℕ) → j < size s → IsOutside (bytes_from start n) j → holds s v j k ≡ holds s u j k)
    → IsOutside (bytes_from (o + start) n) i → held_at o (size s) (λ j l. holds s v j l) i k ≡ held_at o (size s) (λ j l. holds s u j l) i k
side_kept s v u o start n i k same out =
    three_places i o (size s)
    (λ h. in_gap i o (size s) false (holds s v (i - o) k) false h ∙ sym (in_gap i o (size s) false (holds s u (i - o) k) false h))
    (λ g l. in_field i o (size s) false (holds s v (i - o) k) false g l ∙ same (i - o) (omega (arith, g, l)) (back o start n i g out)
    ∙ sym (in_field i o (size s) false (holds s u (i - o) k) false g l))
    (λ h. behind_field i o (size s) false (holds s v (i - o) k) false h ∙ sym (behind_field i o (size s) false (holds s u (i - o) k) false h))

sum_kept : (path : List Step) (w : Plain) → Keeps path w → (names kind : Sort) (side : Bool → Shape) (at : SumLayout) (first : Bool) (v : Plain) (f : ByteMap) (wanted : Option Bool) (i k : ℕ)
    → IsConsistent (sum names side at) → AreBytes f → Shows (sum names side at) (variant kind first v) f
    → fault_by (side_named side at wanted) (is_in wanted (is_state_ok at.determinant f)) (λ inner. shape_fault inner.part (seen_from inner.start f) path w) ≡ None
    → IsOutside (inner_range (λ inner. shape_range inner.part path) (side_named side at wanted)) i
    → holds (sum names side at) (variant kind first (edited_value v path w)) i k ≡ holds (sum names side at) (variant kind first v) i k
sum_kept path w keep names kind side at first v f None i k sound b shown ok out = absurd (cc)
sum_kept path w keep names kind side at first v f (Some wanted) i k sound b shown ok out =
    let found = found_variant wanted (is_state_ok at.determinant f) (shape_fault (side wanted) (seen_from (start_of at wanted) f) path w) ok in
    let here : wanted ≡ first = found.0 ∙ shown.1 in
    let s : Shape = side first in
    let o : ℕ = start_of at first in
    let rest : shape_fault s (seen_from o f) path w ≡ None = subst (λ x. shape_fault (side x) (seen_from (start_of at x) f) path w ≡ None) here found.1 in
    let beside = subst (λ x. IsOutside (bytes_from (start_of at x + (shape_range (side x) path).start) (shape_range (side x) path).size) i) here out in
    ap (λ x. x || holds_test at.determinant first i k)
    (side_kept s (edited_value v path w) v o (shape_range s path).start (shape_range s path).size i k
    (λ j low beyond. keep s v (seen_from o f) (sound.0 first) (from_bytes o f b) shown.2 rest j k low beyond) beside)

pub held_outside : (path : List Step) (w : Plain) → Keeps path w
held_outside [] w s v f sound b shown ok i k low (inl h) = absurd (omega (arith, h))
held_outside [] w s v f sound b shown ok i k low (inr h) = absurd (omega (arith, h, low))
held_outside (st ∷ path) w (atom a) v f sound b shown ok i k low out = absurd (cc)
held_outside (step.Field n ∷ path) w (fields compound.Struct m fs) (list vs) f sound b shown ok i k low out =
    field_kept path w (held_outside path w) compound.Struct m n fs vs f (field_named fs n 0) i k sound b shown refl ok out
held_outside (step.Item n ∷ path) w (fields compound.Array m fs) (list vs) f sound b shown ok i k low out =
    field_kept path w (held_outside path w) compound.Array m n fs vs f (field_named fs n 0) i k sound b shown refl ok out
held_outside (st ∷ path) w (sum names side at) (variant kind first v) f sound b shown ok i k low out =
    sum_kept path w (held_outside path w) names kind side at first v f (variant_entered names st) i k sound b shown ok out
held_outside (step.Field n ∷ path) w (fields compound.Struct m fs) v f sound b shown ok i k low out = absurd shown
held_outside (step.Item n ∷ path) w (fields compound.Array m fs) v f sound b shown ok i k low out = absurd shown
held_outside (st ∷ path) w (sum names side at) v f sound b shown ok i k low out = absurd shown
held_outside (st ∷ path) w (fields compound.Struct m fs) v f sound b shown ok i k low out = absurd (cc)
held_outside (st ∷ path) w (fields compound.Array m fs) v f sound b shown ok i k low out = absurd (cc)
