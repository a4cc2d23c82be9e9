-- What a step names in a shape: it lies in the whole, keeps what the whole keeps, and changes alone where it is edited.
use Rattle.std.proofs.Common.{◌≡◌, ℕ, zero, suc, ◌+◌, ◌-◌, ◌*◌, ◌<◌, ◌≤◌, ◌⊎◌, inl, inr, List, [], ◌∷◌, Bool, true, false, Option, Some, None, refl, ap, ◌∙◌, sym, subst, arith}
use mathlib.Core.Bool.{beq}
use Rattle.std.specs.declared.boxed.Box.{Box}
use Rattle.std.specs.declared.alloc.Global.{Global}
use Rattle.std.proofs.lemmas.Option.{same_Some}
use Rattle.abi_num.specs.Target.{same_bool}
use Rattle.abi_det.specs.State.{is_state_ok}
use Rattle.abi_layout.specs.Shape.{Shape, Shapes, atom, fields, sum, last, field, repeated, size, size_in}
use Rattle.abi_layout.specs.declared.part.Compound.TheVariants as compound
use Rattle.abi_layout.specs.declared.part.Part.{Part}
use Rattle.abi_layout.specs.declared.part.Part.TheVariants as part
use Rattle.abi_layout.specs.declared.part.Sort.{Sort}
use Rattle.abi_layout.specs.declared.part.SumLayout.{SumLayout}
use Rattle.abi_pack.specs.ByteMap.{ByteMap, AreBytes, seen_from}
use Rattle.abi_pack.specs.Consistent.{IsConsistent, AreConsistent, IsSumLayout}
use Rattle.abi_pack.specs.Edits.{Range, set_in, variant_entered}
use Rattle.abi_pack.specs.Plain.{Plain, Plains, end, more}
use Rattle.abi_pack.specs.ShapeEdits.{Inner, field_named, side_named, named, is_there, inner_range, shape_range, reaches, value_at}
use Rattle.abi_pack.specs.Shows.{Shows, ShowIn, holds, holds_in}
use Rattle.abi_pack.specs.View.{shape}
use Rattle.abi_pack.specs.declared.step.Step.{Step}
use Rattle.abi_pack.specs.declared.step.Step.TheVariants as step
use Rattle.abi_pack.proofs.Canons.{same_shows, same_show_in}
use Rattle.abi_pack.proofs.Choice.{in_gap, in_field, behind_field, three_places}
use Rattle.abi_pack.proofs.Offsets.{from_from}
use Rattle.abi_pack.proofs.Views.{shape_sum}

-- ---- it lies in the whole

pub record IsInner (inner : Inner) (least most : ℕ) : Type 0 where
  pub sound : IsConsistent inner.part
  pub low : least ≤ inner.start
  pub high : inner.start + size inner.part ≤ most

pub field_inner : (fs : Shapes) (n before most : ℕ) (inner : Inner) → AreConsistent fs → before + size_in fs ≤ most → field_named fs n before ≡ Some inner → IsInner inner before most
field_inner last n before most inner sound le is = absurd (cc)
field_inner (field gap s fs) zero before most inner sound le is =
    subst (λ x. IsInner x before most) (same_Some _ _ is) (record { sound = sound.0; low = omega arith; high = omega arith })
field_inner (field gap s fs) (suc n) before most inner sound le is =
    let rest = field_inner fs n (before + gap + size s) most inner sound.1 (omega arith) is in
    record { sound = rest.sound; low = omega (arith, rest.low); high = rest.high }

side_inner : (side : Bool → Shape) (at : SumLayout) (wanted : Option Bool) (inner : Inner) → ((first : Bool) → IsConsistent (side first)) → IsSumLayout side at
    → side_named side at wanted ≡ Some inner → IsInner inner 0 at.size
side_inner side at None inner sound is e = absurd (cc)
side_inner side at (Some first) inner sound is e =
    subst (λ x. IsInner x 0 at.size) (same_Some _ _ e) (record { sound = sound first; low = omega arith; high = (is.each first).inside })

pub named_inner : (s : Shape) (st : Step) (inner : Inner) → IsConsistent s → named s st ≡ Some inner → IsInner inner 0 (size s)
named_inner (atom a) st inner sound is = absurd (cc)
named_inner (fields compound.Struct n fs) (step.Field k) inner sound is = field_inner fs k 0 n inner sound.0 (omega (arith, sound.1)) is
named_inner (fields compound.Array n fs) (step.Item k) inner sound is = field_inner fs k 0 n inner sound.0 (omega (arith, sound.1)) is
named_inner (sum names side at) st inner sound is = side_inner side at (variant_entered names st) inner sound.0 sound.1 is
named_inner _ st inner sound is = absurd (cc)

-- item number n of `len`
pub item_is : (len n : ℕ) (s : Shape) (before : ℕ) → n < len → field_named (repeated len s) n before ≡ Some (record { part = s; start = before + n * size s })
item_is zero n s before h = absurd (omega arith)
item_is (suc len) zero s before h = ap (λ x. Some (record { part = s; start = x })) (omega arith)
item_is (suc len) (suc n) s before h =
    item_is len n s (before + 0 + size s) (omega arith) ∙ ap (λ x. Some (record { part = s; start = x })) (omega arith)

pub item_is_none : (len n : ℕ) (s : Shape) (before : ℕ) → len ≤ n → field_named (repeated len s) n before ≡ None
item_is_none zero n s before h = refl
item_is_none (suc len) zero s before h = absurd (omega arith)
item_is_none (suc len) (suc n) s before h = item_is_none len n s (before + 0 + size s) (omega arith)

pub item_found : (len n m : ℕ) (s : Shape) → n < len → m ≡ size s → field_named (repeated len s) n 0 ≡ Some (record { part = s; start = n * m })
item_found len n m s h e = item_is len n s 0 h ∙ ap (λ x. Some (record { part = s; start = x })) (rw e (omega arith))

-- ---- paths

found_inside : (s : Shape) (rest : Inner → Range) (found : Option Inner) → ((inner : Inner) → found ≡ Some inner → inner.start + ((rest inner).start + (rest inner).size) ≤ size s)
    → (inner_range rest found).start + (inner_range rest found).size ≤ size s
found_inside s rest None inside = omega arith
found_inside s rest (Some inner) inside = let is = inside inner refl in omega (arith, is)

pub range_inside : (path : List Step) (s : Shape) → IsConsistent s → (shape_range s path).start + (shape_range s path).size ≤ size s
range_inside [] s sound = omega arith
range_inside (st ∷ path) s sound =
    found_inside s (λ inner. shape_range inner.part path) (named s st)
    (λ inner is. let of = named_inner s st inner sound is in
    let rest = range_inside path inner.part of.sound in omega (arith, of.high, rest))

pub reaches_next : (s : Shape) (st : Step) (path : List Step) (w : Plain) (inner : Inner) → named s st ≡ Some inner → reaches s (st ∷ path) w ≡ true → reaches inner.part path w ≡ true
reaches_next s st path w inner is h = rw is at h

same_truth : (a b : Bool) → beq a b ≡ same_bool a b
same_truth true true = refl
same_truth true false = refl
same_truth false true = refl
same_truth false false = refl

pub there_is : (p : Part) (names : Sort) (a b : Box Part Global) (at : SumLayout) (st : Step) (f : ByteMap) (wanted state : Bool) → p ≡ part.Sum names a b at
    → variant_entered names st ≡ Some wanted → is_state_ok at.determinant f ≡ state → beq wanted state ≡ is_there (shape p) f st
there_is p names a b at st f wanted state e enters is = rw (e, shape_sum names a b at, enters, is) (same_truth wanted state)

-- ---- a field and the others, in bytes that show their values

pub record IsFieldOf (fs : Shapes) (vs : Plains) (n before : ℕ) (inner : Inner) (f : ByteMap) : Type 0 where
  pub shows : Shows inner.part (value_at vs n) (seen_from inner.start f)
  -- with other bytes in it that show another value
  pub edited : (v : Plain) (g : ByteMap) → AreBytes g → ((i : ℕ) → (i < inner.start) ⊎ (inner.start + size inner.part ≤ i) → f i ≡ g i)
      → Shows inner.part v (seen_from inner.start g) → ShowIn fs (set_in vs n v) (seen_from before g)
  -- what the values hold then
  pub here : (v : Plain) (i k : ℕ) → inner.start ≤ before + i → before + i < inner.start + size inner.part
      → holds_in fs (set_in vs n v) i k ≡ holds inner.part v (before + i - inner.start) k
  pub elsewhere : (v : Plain) (i k : ℕ) → (before + i < inner.start) ⊎ (inner.start + size inner.part ≤ before + i)
      → holds_in fs (set_in vs n v) i k ≡ holds_in fs vs i k

first_of : (gap : ℕ) (s : Shape) (fs : Shapes) (v : Plain) (vs : Plains) (before : ℕ) (f : ByteMap) → AreConsistent (field gap s fs) → AreBytes f
    → ShowIn (field gap s fs) (more v vs) (seen_from before f) → IsFieldOf (field gap s fs) (more v vs) zero before (record { part = s; start = before + gap }) f
first_of gap s fs v vs before f sound b shown = record {
  shows = subst (λ g. Shows s v g) (sym (from_from f (before + gap) before gap refl)) shown.0;
  edited = λ w g c same inner. (
    subst (λ h. Shows s w h) (from_from g (before + gap) before gap refl) inner,
    same_show_in fs vs (seen_from (gap + size s) (seen_from before f)) (seen_from (gap + size s) (seen_from before g)) sound.1
        (λ i. b (before + (gap + size s + i))) (λ i. c (before + (gap + size s + i)))
        (λ i low. same (before + (gap + size s + i)) (inr (omega arith))) shown.1,
  );
  here = λ w i k low high.
      let there : i - gap ≡ before + i - (before + gap) = omega arith in
      in_field i gap (size s) false (holds s w (i - gap) k) (holds_in fs vs (i - (gap + size s)) k) (omega (arith, low)) (omega (arith, high))
      ∙ ap (λ j. holds s w j k) there;
  elsewhere = λ w i k place. beside w i k place;
}
  where
    beside : (w : Plain) (i k : ℕ) → (before + i < before + gap) ⊎ (before + gap + size s ≤ before + i)
        → holds_in (field gap s fs) (more w vs) i k ≡ holds_in (field gap s fs) (more v vs) i k
    beside w i k (inl h) =
        in_gap i gap (size s) false (holds s w (i - gap) k) (holds_in fs vs (i - (gap + size s)) k) (omega (arith, h))
        ∙ sym (in_gap i gap (size s) false (holds s v (i - gap) k) (holds_in fs vs (i - (gap + size s)) k) (omega (arith, h)))
    beside w i k (inr h) =
        behind_field i gap (size s) false (holds s w (i - gap) k) (holds_in fs vs (i - (gap + size s)) k) (omega (arith, h))
        ∙ sym (behind_field i gap (size s) false (holds s v (i - gap) k) (holds_in fs vs (i - (gap + size s)) k) (omega (arith, h)))

later_of : (gap : ℕ) (s : Shape) (fs : Shapes) (v : Plain) (vs : Plains) (n before : ℕ) (inner : Inner) (f : ByteMap) → IsConsistent s → AreBytes f
    → Shows s v (seen_from gap (seen_from before f)) → before + gap + size s ≤ inner.start
    → IsFieldOf fs vs n (before + gap + size s) inner f → IsFieldOf (field gap s fs) (more v vs) (suc n) before inner f
later_of gap s fs v vs n before inner f sound b shown low of = record {
  shows = of.shows;
  edited = λ w g c same there. (
    same_shows s v (seen_from gap (seen_from before f)) (seen_from gap (seen_from before g)) sound (λ i. b (before + (gap + i))) (λ i. c (before + (gap + i)))
        (λ i h. same (before + (gap + i)) (inl (omega (arith, low, h)))) shown,
    subst (λ h. ShowIn fs (set_in vs n w) h) (from_from g (before + gap + size s) before (gap + size s) (omega arith)) (of.edited w g c same there),
  );
  here = λ w i k from to.
      let place : before + gap + size s + (i - (gap + size s)) ≡ before + i = omega (arith, low, from) in
      behind_field i gap (size s) false (holds s v (i - gap) k) (holds_in fs (set_in vs n w) (i - (gap + size s)) k) (omega (arith, low, from))
      ∙ of.here w (i - (gap + size s)) k (omega (arith, place, from)) (omega (arith, place, to)) ∙ ap (λ j. holds inner.part w (j - inner.start) k) place;
  elsewhere = λ w i k place.
      three_places i gap (size s)
      (λ h. in_gap i gap (size s) false (holds s v (i - gap) k) (holds_in fs (set_in vs n w) (i - (gap + size s)) k) h
      ∙ sym (in_gap i gap (size s) false (holds s v (i - gap) k) (holds_in fs vs (i - (gap + size s)) k) h))
      (λ g l. in_field i gap (size s) false (holds s v (i - gap) k) (holds_in fs (set_in vs n w) (i - (gap + size s)) k) g l
      ∙ sym (in_field i gap (size s) false (holds s v (i - gap) k) (holds_in fs vs (i - (gap + size s)) k) g l))
      (λ h. behind_field i gap (size s) false (holds s v (i - gap) k) (holds_in fs (set_in vs n w) (i - (gap + size s)) k) h
      ∙ of.elsewhere w (i - (gap + size s)) k (moved i h place)
      ∙ sym (behind_field i gap (size s) false (holds s v (i - gap) k) (holds_in fs vs (i - (gap + size s)) k) h));
}
  where
    moved : (i : ℕ) → gap + size s ≤ i → (before + i < inner.start) ⊎ (inner.start + size inner.part ≤ before + i)
        → (before + gap + size s + (i - (gap + size s)) < inner.start) ⊎ (inner.start + size inner.part ≤ before + gap + size s + (i - (gap + size s)))
    moved i h (inl g) = inl (omega (arith, h, g))
    moved i h (inr g) = inr (omega (arith, h, g))

pub field_of : (fs : Shapes) (vs : Plains) (n before : ℕ) (inner : Inner) (f : ByteMap) → AreConsistent fs → AreBytes f → ShowIn fs vs (seen_from before f)
    → field_named fs n before ≡ Some inner → IsFieldOf fs vs n before inner f
field_of last vs n before inner f sound b shown is = absurd (cc)
field_of (field gap s fs) end n before inner f sound b shown is = absurd shown
field_of (field gap s fs) (more v vs) zero before inner f sound b shown is =
    subst (λ x. IsFieldOf (field gap s fs) (more v vs) zero before x f) (same_Some _ _ is) (first_of gap s fs v vs before f sound b shown)
field_of (field gap s fs) (more v vs) (suc n) before inner f sound b shown is =
    let rest : ShowIn fs vs (seen_from (before + gap + size s) f) =
    subst (λ h. ShowIn fs vs h) (sym (from_from f (before + gap + size s) before (gap + size s) (omega arith))) shown.1 in
    let low = (field_inner fs n (before + gap + size s) (before + gap + size s + size_in fs) inner sound.1 (omega arith) is).low in
    later_of gap s fs v vs n before inner f sound.0 b shown.0 low
    (field_of fs vs n (before + gap + size s) inner f sound.1 b rest is)
