-- Bytes show a value exactly where `is_shown` says so, and it is `value_shown`; it is one of the shape's.
use Rattle.std.proofs.Common.{◌≡◌, ◌+◌, Bool, true, refl, ap, ◌∙◌, sym, subst}
use Rattle.abi_det.specs.State.{is_state_ok}
use Rattle.abi_pack.specs.ByteMap.{ByteMap, AreBytes, seen_from}
use Rattle.abi_pack.specs.Plain.{Plain, Plains, list, variant, end, more}
use Rattle.abi_layout.specs.Shape.{Shape, Shapes, atom, fields, sum, last, field, size}
use Rattle.abi_pack.specs.Consistent.{IsConsistent, AreConsistent}
use Rattle.abi_pack.specs.Shows.{Shows, ShowIn, fits, fits_in, same_sort, start_of}
use Rattle.abi_pack.specs.ValueShown.{is_shown, is_shown_in, value_shown, values_shown}
use Rattle.abi_layout.specs.declared.part.Sort.{Sort}
use Rattle.abi_layout.specs.declared.part.Sort.TheVariants as sort
use Rattle.abi_layout.specs.declared.part.SumLayout.{SumLayout}
use Rattle.abi_pack.proofs.Choice.{and_first, and_second, and_both}
use Rattle.abi_pack.proofs.Agreed.{from_bytes}
use Rattle.abi_pack.proofs.Atoms.{shown_legal_atom, shown_is_atom, legal_shown_atom, atom_fits}

pub own_sort : (names : Sort) → same_sort names names ≡ true
own_sort sort.OfResult = refl
own_sort sort.OfOption = refl

pub sort_is : (a b : Sort) → same_sort a b ≡ true → a ≡ b
sort_is sort.OfResult sort.OfResult h = refl
sort_is sort.OfOption sort.OfOption h = refl
sort_is _ _ h = absurd (cc)

-- ---- a sum, by the variant that its bytes tell

pub shown_state : (names : Sort) (side : Bool → Shape) (at : SumLayout) (first : Bool) (g : ByteMap) → is_state_ok at.determinant g ≡ first
    → is_shown (side first) (seen_from (start_of at first) g) ≡ is_shown (sum names side at) g
shown_state names side at first g e = subst (λ b. is_shown (side b) (seen_from (start_of at b) g) ≡ is_shown (sum names side at) g) e refl

pub told_state : (names : Sort) (side : Bool → Shape) (at : SumLayout) (first : Bool) (g : ByteMap) → is_state_ok at.determinant g ≡ first
    → variant names first (value_shown (side first) (seen_from (start_of at first) g)) ≡ value_shown (sum names side at) g
told_state names side at first g e =
    subst (λ b. variant names b (value_shown (side b) (seen_from (start_of at b) g)) ≡ value_shown (sum names side at) g) e refl

-- ---- every shape

mutual
  pub shown_value : (s : Shape) (f : ByteMap) → AreBytes f → is_shown s f ≡ true → Shows s (value_shown s f) f
  shown_value (atom a) f b h = legal_shown_atom a f b h
  shown_value (fields compound n fs) f b h = shown_values fs f b h
  shown_value (sum names side at) f b h =
      let first : Bool = is_state_ok at.determinant f in
      (own_sort names, refl, shown_value (side first) (seen_from (start_of at first) f) (from_bytes (start_of at first) f b) h)

  shown_values : (fs : Shapes) (f : ByteMap) → AreBytes f → is_shown_in fs f ≡ true → ShowIn fs (values_shown fs f) f
  shown_values last f b h = tt
  shown_values (field gap s fs) f b h = (
    shown_value s (seen_from gap f) (from_bytes gap f b) (and_first (is_shown s (seen_from gap f)) _ h),
    shown_values fs (seen_from (gap + size s) f) (from_bytes (gap + size s) f b) (and_second (is_shown s (seen_from gap f)) _ h),
  )

mutual
  pub shown_where : (s : Shape) (v : Plain) (f : ByteMap) → Shows s v f → is_shown s f ≡ true
  shown_where (atom a) v f h = shown_legal_atom a v f h
  shown_where (fields compound n fs) (list vs) f h = shown_where_in fs vs f h
  shown_where (sum names side at) (variant kind first v) f h =
      sym (shown_state names side at first f h.1) ∙ shown_where (side first) v (seen_from (start_of at first) f) h.2
  shown_where _ _ f h = absurd h

  shown_where_in : (fs : Shapes) (vs : Plains) (f : ByteMap) → ShowIn fs vs f → is_shown_in fs f ≡ true
  shown_where_in last vs f h = refl
  shown_where_in (field gap s fs) (more v vs) f h =
      and_both (is_shown s (seen_from gap f)) _ (shown_where s v (seen_from gap f) h.0) (shown_where_in fs vs (seen_from (gap + size s) f) h.1)
  shown_where_in (field gap s fs) end f h = absurd h

-- what bytes show is `value_shown`
mutual
  pub told_where : (s : Shape) (v : Plain) (f : ByteMap) → Shows s v f → v ≡ value_shown s f
  told_where (atom a) v f h = shown_is_atom a v f h
  told_where (fields compound n fs) (list vs) f h = ap list (told_where_in fs vs f h)
  told_where (sum names side at) (variant kind first v) f h =
      ap (λ k. variant k first v) (sym (sort_is names kind h.0))
      ∙ ap (variant names first) (told_where (side first) v (seen_from (start_of at first) f) h.2)
      ∙ told_state names side at first f h.1
  told_where _ _ f h = absurd h

  told_where_in : (fs : Shapes) (vs : Plains) (f : ByteMap) → ShowIn fs vs f → vs ≡ values_shown fs f
  told_where_in last end f h = refl
  told_where_in (field gap s fs) (more v vs) f h =
      let first : v ≡ value_shown s (seen_from gap f) = told_where s v (seen_from gap f) h.0 in
      let rest : vs ≡ values_shown fs (seen_from (gap + size s) f) = told_where_in fs vs (seen_from (gap + size s) f) h.1 in cc
  told_where_in _ _ f h = absurd h

-- so they show at most one
pub unique : (s : Shape) (v w : Plain) (f : ByteMap) → Shows s v f → Shows s w f → v ≡ w
unique s v w f hv hw = told_where s v f hv ∙ sym (told_where s w f hw)

mutual
  pub shown_fits : (s : Shape) (v : Plain) (f : ByteMap) → IsConsistent s → AreBytes f → Shows s v f → fits s v ≡ true
  shown_fits (atom a) v f sound b h = atom_fits a v f sound b h
  shown_fits (fields compound n fs) (list vs) f sound b h = shown_fit_in fs vs f sound.0 b h
  shown_fits (sum names side at) (variant kind first v) f sound b h =
      and_both (same_sort names kind) (fits (side first) v) h.0
      (shown_fits (side first) v (seen_from (start_of at first) f) (sound.0 first) (from_bytes (start_of at first) f b) h.2)
  shown_fits _ _ f sound b h = absurd h

  shown_fit_in : (fs : Shapes) (vs : Plains) (f : ByteMap) → AreConsistent fs → AreBytes f → ShowIn fs vs f → fits_in fs vs ≡ true
  shown_fit_in last end f sound b h = refl
  shown_fit_in (field gap s fs) (more v vs) f sound b h =
      and_both (fits s v) (fits_in fs vs) (shown_fits s v (seen_from gap f) sound.0 (from_bytes gap f b) h.0)
      (shown_fit_in fs vs (seen_from (gap + size s) f) sound.1 (from_bytes (gap + size s) f b) h.1)
  shown_fit_in _ _ f sound b h = absurd h
