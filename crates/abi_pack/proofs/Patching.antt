-- What an edit in place leaves: the edited value, zeros at what it does not hold in the replaced bytes, and all else as it was.
use Rattle.std.specs.Int.{bit_at}
use Rattle.std.proofs.Common.{◌≡◌, ℕ, ◌+◌, ◌-◌, ◌<◌, ◌≤◌, ◌⊎◌, inl, inr, List, [], ◌∷◌, length, get_or, take, drop, Bool, true, false, cond, Option, Some, None, refl, ap, ◌∙◌, sym, subst, arith}
use Rattle.std.proofs.Math.ListN.{get_or-eq_default}
use Rattle.abi_num.specs.Target.{same_bool}
use Rattle.abi_det.specs.State.{test_holds, is_state_ok}
use Rattle.abi_det.specs.SoundPlacement.{is_imposed, IsTest}
use Rattle.abi_layout.specs.Shape.{Shape, Shapes, atom, fields, sum, size}
use Rattle.abi_layout.specs.declared.part.Compound.{Compound}
use Rattle.abi_layout.specs.declared.part.Compound.TheVariants as compound
use Rattle.abi_layout.specs.declared.part.Sort.{Sort}
use Rattle.abi_layout.specs.declared.part.SumLayout.{SumLayout}
use Rattle.abi_pack.specs.ByteMap.{ByteMap, AreBytes, seen_from, bytes_of}
use Rattle.abi_pack.specs.Consistent.{IsConsistent, IsSide}
use Rattle.abi_pack.specs.Edits.{Range, IsOutside, set_in, variant_entered}
use Rattle.abi_pack.specs.Packed.{packed}
use Rattle.abi_pack.specs.Plain.{Plain, Plains, list, variant}
use Rattle.abi_pack.specs.ShapeEdits.{Inner, field_named, side_named, is_in, fault_by, shape_fault, bytes_from, inner_range, shape_range, value_at, edited_value, imposed_inside, restored_as, within, patched_in, patched}
use Rattle.abi_pack.specs.Shows.{Shows, ShowIn, fits, same_sort, holds, held_at, start_of, sign_of}
use Rattle.abi_pack.specs.declared.plan.EditError.{EditError}
use Rattle.abi_pack.specs.declared.plan.EditError.TheVariants as error
use Rattle.abi_pack.specs.declared.step.Step.{Step}
use Rattle.abi_pack.specs.declared.step.Step.TheVariants as step
use Rattle.abi_pack.proofs.Agreed.{agree, from_bytes, missing}
use Rattle.abi_pack.proofs.Canons.{apart, same_shows, packed_canonical, packed_length, packed_small}
use Rattle.abi_pack.proofs.Choice.{in_field, neither_first, neither_second, three_places, two_truths}
use Rattle.abi_pack.proofs.Inners.{field_inner, field_of}
use Rattle.abi_pack.proofs.Middles.{cut_length, cut_at, cut_small, middle, middle_length, middle_here, middle_else}
use Rattle.abi_pack.proofs.Numbers.{AllBytes}
use Rattle.abi_pack.proofs.Restoring.{is_outside, outside_range, inside_length, inside_small, inside_kept, inside_truth, beside_imposed}
use Rattle.abi_pack.proofs.TreeValues.{from_zero}
use Rattle.abi_pack.proofs.Truths.{state_sign, sign_state}

-- the bytes xs were edited to ys, which show v
pub record IsPatched (s : Shape) (v : Plain) (r : Range) (xs ys : List ℕ) : Type 0 where
  pub long : length ys ≡ length xs
  pub small : AllBytes ys
  pub inside : r.start + r.size ≤ size s
  pub outside : (i : ℕ) → IsOutside r i → get_or ys i 0 ≡ get_or xs i 0
  pub shows : Shows s v (bytes_of ys)
  pub clear : (i k : ℕ) → r.start ≤ i → i < r.start + r.size → k < 8 → holds s v i k ≡ false → bit_at (get_or ys i 0) k ≡ 0

-- ---- the part at the end of the path

pub fits_if : (b : Bool) → cond b None (Some error.WrongPart) ≡ None → b ≡ true
fits_if true e = refl
fits_if false e = absurd (cc)

past_both : (xs ys : List ℕ) (i : ℕ) → length xs ≤ i → length ys ≤ i → get_or xs i 0 ≡ get_or ys i 0
past_both xs ys i a b = get_or-eq_default xs 0 a ∙ sym (get_or-eq_default ys 0 b)

whole_patched : (s : Shape) (w : Plain) (xs : List ℕ) → IsConsistent s → length xs ≡ size s → fits s w ≡ true → IsPatched s w (bytes_from 0 (size s)) xs (packed s w)
whole_patched s w xs sound long fit =
    let canon = packed_canonical s w sound fit in
    record {
      long = packed_length s w sound fit ∙ sym long;
      small = packed_small s w sound fit;
      inside = omega arith;
      outside = λ i out. beside i out;
      shows = canon.shows;
      clear = λ i k low high eight none. canon.clear i k (omega (arith, high)) eight none;
    }
  where
    beside : (i : ℕ) → IsOutside (bytes_from 0 (size s)) i → get_or (packed s w) i 0 ≡ get_or xs i 0
    beside i (inl h) = absurd (omega (arith, h))
    beside i (inr h) =
        let past : size s ≤ i = omega (arith, h) in
        let a : length (packed s w) ≤ i = rw (packed_length s w sound fit) past in
        let b : length xs ≤ i = rw long past in past_both (packed s w) xs i a b

-- ---- a part in others

-- bytes xs with those of an edited part in their place
record IsPlaced (s : Shape) (v : Plain) (o : ℕ) (r : Range) (xs zs : List ℕ) : Type 0 where
  long : length zs ≡ length xs
  small : AllBytes zs
  inside : r.start + r.size ≤ size s
  beside : (i : ℕ) → (i < o) ⊎ (o + size s ≤ i) → get_or xs i 0 ≡ get_or zs i 0
  outside : (i : ℕ) → IsOutside (bytes_from (o + r.start) r.size) i → get_or zs i 0 ≡ get_or xs i 0
  shows : Shows s v (seen_from o (bytes_of zs))
  clear : (i k : ℕ) → o + r.start ≤ i → i < o + r.start + r.size → k < 8 → holds s v (i - o) k ≡ false → bit_at (get_or zs i 0) k ≡ 0

placed : (s : Shape) (v : Plain) (o : ℕ) (r : Range) (xs ys : List ℕ) → IsConsistent s → o + size s ≤ length xs → AllBytes xs
    → IsPatched s v r (take (size s) (drop o xs)) ys → IsPlaced s v o r xs (middle xs o (size s) ys)
placed s v o r xs ys sound le small p =
    let n : length ys ≡ size s = p.long ∙ cut_length xs o (size s) le in
    let moved : (i : ℕ) → i < size s → get_or ys i 0 ≡ get_or (middle xs o (size s) ys) (o + i) 0 =
    λ i low. (let back : o + i - o ≡ i = omega arith in
    sym (middle_here xs ys o (size s) le n (o + i) (omega arith) (omega arith) ∙ ap (λ j. get_or ys j 0) back)) in
    let bytes : AllBytes (middle xs o (size s) ys) = λ i.
    three_places i o (size s)
    (λ h. rw (middle_else xs ys o (size s) le n i (inl h)) (small i))
    (λ g l. rw (middle_here xs ys o (size s) le n i g l) (p.small (i - o)))
    (λ h. rw (middle_else xs ys o (size s) le n i (inr h)) (small i)) in
    let in_part : r.start + r.size ≤ size s = p.inside in
    record {
      long = middle_length xs ys o (size s) le n;
      small = bytes;
      inside = p.inside;
      beside = λ i out. sym (middle_else xs ys o (size s) le n i out);
      outside = λ i out.
          three_places i o (size s)
          (λ h. middle_else xs ys o (size s) le n i (inl h))
          (λ g l. let there : o + (i - o) ≡ i = omega arith in
          middle_here xs ys o (size s) le n i g l ∙ p.outside (i - o) (back i g out)
          ∙ cut_at xs o (size s) (i - o) (omega arith) ∙ ap (λ j. get_or xs j 0) there)
          (λ h. middle_else xs ys o (size s) le n i (inr h));
      shows = same_shows s v (bytes_of ys) (seen_from o (bytes_of (middle xs o (size s) ys))) sound p.small (λ i. bytes (o + i)) moved p.shows;
      clear = λ i k low high eight none.
          ap (λ x. bit_at x k) (middle_here xs ys o (size s) le n i (omega arith) (omega arith))
          ∙ p.clear (i - o) k (omega arith) (omega arith) eight none;
    }
  where
    back : (i : ℕ) → o ≤ i → IsOutside (bytes_from (o + r.start) r.size) i → IsOutside r (i - o)
    back i g (inl h) = inl (omega arith)
    back i g (inr h) = inr (omega arith)

-- ---- a field or an item

-- the edit of a part of v, whatever v is
abbrev Goes : List Step → Plain → Type 0
Goes path w = (s : Shape) (v : Plain) (f : ByteMap) (xs : List ℕ) → IsConsistent s → AreBytes f → Shows s v f → shape_fault s f path w ≡ None
    → length xs ≡ size s → AllBytes xs → Shows s v (bytes_of xs)
    → IsPatched s (edited_value v path w) (shape_range s path) xs (patched s path w xs)

field_patched : (path : List Step) (w : Plain) → Goes path w → (c : Compound) (n k : ℕ) (fs : Shapes) (vs : Plains) (f : ByteMap) (xs : List ℕ) (found : Option Inner)
    → IsConsistent (fields c n fs) → AreBytes f → ShowIn fs vs f → field_named fs k 0 ≡ found
    → fault_by found true (λ inner. shape_fault inner.part (seen_from inner.start f) path w) ≡ None
    → length xs ≡ n → AllBytes xs → ShowIn fs vs (bytes_of xs)
    → IsPatched (fields c n fs) (list (set_in vs k (edited_value (value_at vs k) path w))) (inner_range (λ inner. shape_range inner.part path) found) xs
    (patched_in (λ inner ys. patched inner.part path w ys) found xs)
field_patched path w go c n k fs vs f xs None sound b shown is ok long small now = absurd (cc)
field_patched path w go c n k fs vs f xs (Some inner) sound b shown is ok long small now =
    let s : Shape = inner.part in
    let o : ℕ = inner.start in
    let v : Plain = edited_value (value_at vs k) path w in
    let r : Range = shape_range s path in
    let in_ = field_inner fs k 0 n inner sound.0 (omega (arith, sound.1)) is in
    let old = field_of fs vs k 0 inner f sound.0 b (subst (λ g. ShowIn fs vs g) (sym (from_zero f)) shown) is in
    let of = field_of fs vs k 0 inner (bytes_of xs) sound.0 small (subst (λ g. ShowIn fs vs g) (sym (from_zero (bytes_of xs))) now) is in
    let le : o + size s ≤ length xs = omega (arith, in_.high, long) in
    let bytes : AllBytes (take (size s) (drop o xs)) = cut_small xs o (size s) le small in
    let inner_now : Shows s (value_at vs k) (bytes_of (take (size s) (drop o xs))) =
    same_shows s (value_at vs k) (seen_from o (bytes_of xs)) (bytes_of (take (size s) (drop o xs))) in_.sound (λ i. small (o + i)) bytes
    (λ i low. sym (cut_at xs o (size s) i low)) of.shows in
    let p = placed s v o r xs (patched s path w (take (size s) (drop o xs))) in_.sound le small
    (go s (value_at vs k) (seen_from o f) (take (size s) (drop o xs)) in_.sound (from_bytes o f b) old.shows ok (cut_length xs o (size s) le) bytes inner_now) in
    record {
      long = p.long;
      small = p.small;
      inside = omega (arith, p.inside, in_.high);
      outside = p.outside;
      shows = subst (λ g. ShowIn fs (set_in vs k v) g) (from_zero _) (of.edited v (bytes_of (middle xs o (size s) (patched s path w (take (size s) (drop o xs))))) p.small p.beside p.shows);
      clear = λ i l low high eight none.
          let back : i ≡ 0 + i = omega arith in
          p.clear i l low high eight
          (ap (λ j. holds s v (j - o) l) back ∙ sym (of.here v i l (omega (arith, low)) (omega (arith, high, p.inside))) ∙ none);
    }

-- ---- a variant

pub found_variant : (wanted state : Bool) (rest : Option EditError) → cond (same_bool wanted state) rest (Some error.WrongVariant) ≡ None → (wanted ≡ state) × (rest ≡ None)
found_variant true true rest h = (refl, h)
found_variant false false rest h = (refl, h)
found_variant true false rest h = absurd (cc)
found_variant false true rest h = absurd (cc)

-- after a variant was edited in its place, and its test was restored in the replaced bytes
variant_patched : (names kind : Sort) (side : Bool → Shape) (at : SumLayout) (first : Bool) (v : Plain) (r : Range) (xs zs : List ℕ)
    → IsConsistent (sum names side at) → same_sort names kind ≡ true → is_state_ok at.determinant (bytes_of xs) ≡ first → length xs ≡ at.size
    → IsPlaced (side first) v (start_of at first) r xs zs
    → IsPatched (sum names side at) (variant kind first v) (bytes_from (start_of at first + r.start) r.size) xs
    (imposed_inside (bytes_from (start_of at first + r.start) r.size) at.determinant.test (sign_of at first) zs)
variant_patched names kind side at first v r xs zs sound sort state long p =
    let s : Shape = side first in
    let o : ℕ = start_of at first in
    let whole : Range = bytes_from (o + r.start) r.size in
    let sign : Bool = sign_of at first in
    let new : List ℕ = imposed_inside whole at.determinant.test sign zs in
    let is : IsSide s first at = sound.1.each first in
    let tested = sound.1.tested in
    let room : at.size ≤ length zs = omega (arith, p.long, long) in
    let bytes : AllBytes new = λ i. inside_small whole at.determinant.test at.size sign zs tested p.small i in
    let shown : Shows s v (seen_from o (bytes_of new)) =
    agree s v (seen_from o (bytes_of zs)) (seen_from o (bytes_of new)) (sound.0 first) (λ i. p.small (o + i)) (λ i. bytes (o + i))
    (λ i k low eight held. sym (inside_kept whole at.determinant.test at.size sign zs (o + i) k tested room eight (apart s v first at is i k low eight held))) p.shows in
    record {
      long = inside_length whole at.determinant.test sign zs ∙ p.long;
      small = bytes;
      inside = omega (arith, p.inside, is.inside);
      outside = λ i out. beside_imposed whole at.determinant.test sign zs i (is_outside whole i out) ∙ p.outside i out;
      shows = (sort, sign_state at (bytes_of new) first (truth is shown tested room (two_truths _)), shown);
      clear = λ i k low high eight none.
          inside_kept whole at.determinant.test at.size sign zs i k tested room eight (neither_second (held_at o (size s) (λ j l. holds s v j l) i k) _ none)
          ∙ p.clear i k low high eight
          (sym (in_field i o (size s) false (holds s v (i - o) k) false (omega (arith, low)) (omega (arith, high, p.inside)))
          ∙ neither_first (held_at o (size s) (λ j l. holds s v j l) i k) _ none);
    }
  where
    truth : IsSide (side first) first at → Shows (side first) v (seen_from (start_of at first) (bytes_of (imposed_inside (bytes_from (start_of at first + r.start) r.size) at.determinant.test (sign_of at first) zs)))
        → IsTest at.determinant.test at.size → at.size ≤ length zs
        → (is_imposed at.determinant.test (sign_of at first) ≡ true) ⊎ (is_imposed at.determinant.test (sign_of at first) ≡ false)
        → test_holds at.determinant.test (bytes_of (imposed_inside (bytes_from (start_of at first + r.start) r.size) at.determinant.test (sign_of at first) zs)) ≡ sign_of at first
    truth is shown tested room (inl written) =
        inside_truth (bytes_from (start_of at first + r.start) r.size) at.determinant.test at.size (sign_of at first) xs zs tested room p.small written
        (state_sign at (bytes_of xs) first state)
        (λ i h. p.outside i (outside_range (bytes_from (start_of at first + r.start) r.size) i h))
    truth is shown tested room (inr lacks) = missing (side first) v first at _ is shown lacks

sum_patched : (path : List Step) (w : Plain) → Goes path w → (names kind : Sort) (side : Bool → Shape) (at : SumLayout) (first : Bool) (v : Plain) (f : ByteMap) (xs : List ℕ)
    (wanted : Option Bool) → IsConsistent (sum names side at) → AreBytes f → Shows (sum names side at) (variant kind first v) f
    → fault_by (side_named side at wanted) (is_in wanted (is_state_ok at.determinant f)) (λ inner. shape_fault inner.part (seen_from inner.start f) path w) ≡ None
    → length xs ≡ at.size → AllBytes xs → Shows (sum names side at) (variant kind first v) (bytes_of xs)
    → IsPatched (sum names side at) (variant kind first (edited_value v path w)) (inner_range (λ inner. shape_range inner.part path) (side_named side at wanted)) xs
    (restored_as at (inner_range (λ inner. shape_range inner.part path) (side_named side at wanted))
    (patched_in (λ inner ys. patched inner.part path w ys) (side_named side at wanted) xs) wanted)
sum_patched path w go names kind side at first v f xs None sound b shown ok long small now = absurd (cc)
sum_patched path w go names kind side at first v f xs (Some wanted) sound b shown ok long small now =
    let found = found_variant wanted (is_state_ok at.determinant f) (shape_fault (side wanted) (seen_from (start_of at wanted) f) path w) ok in
    let here : wanted ≡ first = found.0 ∙ shown.1 in
    let s : Shape = side first in
    let o : ℕ = start_of at first in
    let rest : shape_fault s (seen_from o f) path w ≡ None = subst (λ x. shape_fault (side x) (seen_from (start_of at x) f) path w ≡ None) here found.1 in
    let is : IsSide s first at = sound.1.each first in
    let le : o + size s ≤ length xs = omega (arith, is.inside, long) in
    let bytes : AllBytes (take (size s) (drop o xs)) = cut_small xs o (size s) le small in
    let inner_now : Shows s v (bytes_of (take (size s) (drop o xs))) =
    same_shows s v (seen_from o (bytes_of xs)) (bytes_of (take (size s) (drop o xs))) (sound.0 first) (λ i. small (o + i)) bytes (λ i low. sym (cut_at xs o (size s) i low)) now.2 in
    subst
    (λ x. IsPatched (sum names side at) (variant kind first (edited_value v path w)) (bytes_from (start_of at x + (shape_range (side x) path).start) (shape_range (side x) path).size) xs
    (imposed_inside (bytes_from (start_of at x + (shape_range (side x) path).start) (shape_range (side x) path).size) at.determinant.test (sign_of at x)
    (within (start_of at x) (size (side x)) (λ ys. patched (side x) path w ys) xs)))
    (sym here)
    (variant_patched names kind side at first (edited_value v path w) (shape_range s path) xs (middle xs o (size s) (patched s path w (take (size s) (drop o xs)))) sound now.0 now.1 long
    (placed s (edited_value v path w) o (shape_range s path) xs (patched s path w (take (size s) (drop o xs))) (sound.0 first) le small
    (go s v (seen_from o f) (take (size s) (drop o xs)) (sound.0 first) (from_bytes o f b) shown.2 rest (cut_length xs o (size s) le) bytes inner_now)))

-- ---- every path

pub patched_is : (path : List Step) (w : Plain) → Goes path w
patched_is [] w s v f xs sound b shown ok long small now = whole_patched s w xs sound long (fits_if (fits s w) ok)
patched_is (st ∷ path) w (atom a) v f xs sound b shown ok long small now = absurd (cc)
patched_is (step.Field k ∷ path) w (fields compound.Struct n fs) (list vs) f xs sound b shown ok long small now =
    field_patched path w (patched_is path w) compound.Struct n k fs vs f xs (field_named fs k 0) sound b shown refl ok long small now
patched_is (step.Item k ∷ path) w (fields compound.Array n fs) (list vs) f xs sound b shown ok long small now =
    field_patched path w (patched_is path w) compound.Array n k fs vs f xs (field_named fs k 0) sound b shown refl ok long small now
patched_is (st ∷ path) w (sum names side at) (variant kind first v) f xs sound b shown ok long small now =
    sum_patched path w (patched_is path w) names kind side at first v f xs (variant_entered names st) sound b shown ok long small now
patched_is (step.Field k ∷ path) w (fields compound.Struct n fs) v f xs sound b shown ok long small now = absurd shown
patched_is (step.Item k ∷ path) w (fields compound.Array n fs) v f xs sound b shown ok long small now = absurd shown
patched_is (st ∷ path) w (sum names side at) v f xs sound b shown ok long small now = absurd shown
patched_is (st ∷ path) w (fields compound.Struct n fs) v f xs sound b shown ok long small now = absurd (cc)
patched_is (st ∷ path) w (fields compound.Array n fs) v f xs sound b shown ok long small now = absurd (cc)
