-- A place has a refusal that holds exactly where it offers no niche.
use Rattle.std.proofs.Common.{◌≡◌, ◌≢◌, ◌↔◌, ℕ, zero, suc, ◌+◌, ◌*◌, ◌<◌, ◌≤◌, Bool, true, false, ◌&&◌, ◌||◌, not, List, [], ◌∷◌, ◌++◌, append-nil, Option, Some, None, map, length, get_or, cond, eqb, ltb, leb, refl, sym, ap, ◌∙◌, subst, inl, inr, arith}
use Rattle.std.specs.List.{list_all, list_any}
use Rattle.std.specs.Prelude.{is_none}
use Rattle.std.proofs.lemmas.List.Folds.{list_all-append, list_any-append}
use Rattle.std.proofs.lemmas.Bool.{and_parts, and_from, or_left, or_right, ltb-true, eqb-false, ne_eqb, eq-eqb, le-leb, lt-ltb, le-ltb, cases_lt, cases_eq, cases_Bool, both_ways, false_from_ne_true, not-true, not_from_false, cond-true, cond-false}
use Rattle.abi_bits.specs.Pairs.{Pair, moved_pairs}
use Rattle.abi_bits.specs.Mask.{IsMask}
use Rattle.abi_bits.specs.Forbidden.{offered}
use Rattle.abi_det.specs.Frame.{Frame, forbids}
use Rattle.abi_det.specs.Roles.{union_byte, lies_free, is_place, union_size, larger, smaller, ok_is_larger}
use Rattle.abi_det.specs.Offers.{Rules, Niche, leading_pattern, shared_bit, by_bit, first_offer}
use Rattle.abi_det.specs.Written.{first_blocking, refusal_at, refusals_below, is_blocking, are_blocking, is_none_named, refuses, placement_of, written_placement}
use Rattle.abi_det.specs.Niches.{IsLeading, IsNiche, OffersNone, IsFirstBelow}
use Rattle.abi_det.specs.Refusals.{AllRefuse, places_rise, AreComplete, IsFirstBlocking}
use Rattle.abi_det.specs.Laws.{RefusedLaw, RefusalsLaw, BlockingLaw}
use Rattle.abi_det.specs.declared.placements.Refusal.{Refusal}
use Rattle.abi_det.specs.declared.placements.Kind.{Kind}
use Rattle.abi_det.specs.declared.placements.Kind.TheVariants as kind
use Rattle.abi_det.specs.declared.determinant.Test.{Test}
use Rattle.abi_det.specs.declared.determinant.Test.TheVariants as test
use Rattle.abi_det.proofs.Niches.{IsFirst, wrap_bit}
use Rattle.abi_det.proofs.SoundPlacements.{pick}
use Rattle.abi_det.proofs.Patterns.{free_named}
use Rattle.abi_det.proofs.Chosen.{place_below, search_of}

-- a pattern with a blocking byte does not lie free
not_lying : (free : ℕ → ℕ) (ps : List Pair) (at : ℕ) → is_blocking free ps at ≡ true → lies_free free ps ≡ false
not_lying free ps at blocks =
    let b = and_parts (list_any (λ p. eqb p.0 at) ps) (not (eqb (free at) 255)) blocks in
    false_from_ne_true (lies_free free ps)
    (λ lies. eqb-false (free at) 255 (not-true (eqb (free at) 255) b.1) (free_named free at ps lies b.0))

none_lies : (free : ℕ → ℕ) (pss : List (List Pair)) (ats : List ℕ) → are_blocking free pss ats ≡ true → (n : ℕ) → n < length pss → lies_free free (get_or pss n []) ≡ false
none_lies free [] ats are n lt = absurd (omega (arith, lt))
none_lies free (ps ∷ pss) [] are n lt = absurd (cc)
none_lies free (ps ∷ pss) (at ∷ ats) are zero lt = not_lying free ps at (and_parts (is_blocking free ps at) (are_blocking free pss ats) are).0
none_lies free (ps ∷ pss) (at ∷ ats) are (suc n) lt = none_lies free pss ats (and_parts (is_blocking free ps at) (are_blocking free pss ats) are).1 n (omega (arith, lt))

-- the first blocking byte is one
first_blocks : (free : ℕ → ℕ) (ps : List Pair) → lies_free free ps ≡ false → is_blocking free ps (first_blocking free ps) ≡ true
first_blocks free [] none = absurd (cc)
first_blocks free (p ∷ ps) none = elim (cases_Bool (eqb (free p.0) 255)) [
  | inl whole ↦
      let rest : lies_free free ps ≡ false = rw whole at none in
      let at : ℕ = first_blocking free ps in
      let e : first_blocking free (p ∷ ps) ≡ at = rw whole refl in
      let b = and_parts (list_any (λ q. eqb q.0 at) ps) (not (eqb (free at) 255)) (first_blocks free ps rest) in
      subst (λ (x : ℕ). is_blocking free (p ∷ ps) x ≡ true) (sym e)
      (and_from (list_any (λ q. eqb q.0 at) (p ∷ ps)) (not (eqb (free at) 255)) (or_right (eqb p.0 at) (list_any (λ q. eqb q.0 at) ps) b.0) b.1)
  | inr part ↦
      let e : first_blocking free (p ∷ ps) ≡ p.0 = rw part refl in
      subst (λ (x : ℕ). is_blocking free (p ∷ ps) x ≡ true) (sym e)
      (and_from (list_any (λ q. eqb q.0 p.0) (p ∷ ps)) (not (eqb (free p.0) 255))
      (or_left (eqb p.0 p.0) (list_any (λ q. eqb q.0 p.0) ps) (eq-eqb p.0 p.0 refl)) (not_from_false (eqb (free p.0) 255) part))
]

all_block : (free : ℕ → ℕ) (pss : List (List Pair)) → ((n : ℕ) → n < length pss → lies_free free (get_or pss n []) ≡ false)
    → are_blocking free pss (map (first_blocking free) pss) ≡ true
all_block free [] none = refl
all_block free (ps ∷ pss) none =
    and_from (is_blocking free ps (first_blocking free ps)) (are_blocking free pss (map (first_blocking free) pss))
    (first_blocks free ps (none 0 (omega arith))) (all_block free pss (λ n lt. none (suc n) (omega (arith, lt))))

pub first_is_first : BlockingLaw
first_is_first free [] none = absurd (cc)
first_is_first free (p ∷ ps) none = elim (cases_Bool (eqb (free p.0) 255)) [
  | inl whole ↦
      let rest : lies_free free ps ≡ false = rw whole at none in
      let e : first_blocking free (p ∷ ps) ≡ first_blocking free ps = rw whole refl in
      let f = first_is_first free ps rest in
      subst (λ (x : ℕ). IsFirstBlocking free (p ∷ ps) x) (sym e) (record {
        before = p ∷ f.before;
        value = f.value;
        after = f.after;
        is = ap (λ xs. p ∷ xs) f.is;
        free_before = and_from (eqb (free p.0) 255) (lies_free free f.before) whole f.free_before;
        blocked = f.blocked;
      })
  | inr part ↦
      let e : first_blocking free (p ∷ ps) ≡ p.0 = rw part refl in
      subst (λ (x : ℕ). IsFirstBlocking free (p ∷ ps) x) (sym e)
      (record { before = []; value = p.1; after = ps; is = refl; free_before = refl; blocked = eqb-false (free p.0) 255 part })
]

none_of : (P : ℕ → Test → Type 0) (o : Option Pair) → IsFirst kind.SharedBit P (by_bit o) → is_none o ≡ true → (n : ℕ) (t : Test) → P n t → ⊥
none_of P None first none = first
none_of P (Some e) first none = absurd (cc)

is_none_of : (P : ℕ → Test → Type 0) (o : Option Pair) → IsFirst kind.SharedBit P (by_bit o) → ((n : ℕ) (t : Test) → P n t → ⊥) → is_none o ≡ true
is_none_of P None first none = refl
is_none_of P (Some e) first none = absurd (none first.1 (test.BitIsErr e.0 e.1) first.2)

not_leading : (o : Option (List Pair)) (n : ℕ) (t : Test) → is_none o ≡ true → IsLeading o n t → ⊥
not_leading None n t none lead = lead
not_leading (Some ps) n t none lead = absurd (cc)

is_none_leading : (o : Option (List Pair)) → ((n : ℕ) (t : Test) → IsLeading o n t → ⊥) → is_none o ≡ true
is_none_leading None none = refl
is_none_leading (Some ps) none = absurd (none 0 (test.ValueIsErr ps) (refl, refl))

or_none : (a : Bool) → (a || false) ≡ a
or_none true = refl
or_none false = refl

within : (a b : Bool) → (b ≡ true → a ≡ true) → (a && b) ≡ b
within true b h = refl
within false true h = h refl
within false false h = refl

each_more : (n k : ℕ) (p b x : Bool) → x ≡ (b && eqb n k) → (n ≡ k → p ≡ b) → ((ltb k n && p) || x) ≡ (ltb k (suc n) && p)
each_more n k p b x q same = elim (cases_lt k n) [
  | inl lt ↦
      let t : ltb k n ≡ true = lt-ltb k n lt in
      let u : ltb k (suc n) ≡ true = lt-ltb k (suc n) (omega (arith, lt)) in
      let v : eqb n k ≡ false = ne_eqb n k (λ e. absurd (omega (arith, lt, e))) in
      rw (q, t, u, v) (left p b)
  | inr le ↦ elim (cases_eq n k) [
    | inl e ↦
        let t : ltb k n ≡ false = le-ltb k n le in
        let u : ltb k (suc n) ≡ true = lt-ltb k (suc n) (omega (arith, e)) in
        let v : eqb n k ≡ true = eq-eqb n k e in
        rw (q, t, u, v, same e) (right b)
    | inr ne ↦
        let t : ltb k n ≡ false = le-ltb k n le in
        let u : ltb k (suc n) ≡ false = le-ltb k (suc n) (omega (arith, le, ne)) in
        let v : eqb n k ≡ false = ne_eqb n k ne in
        rw (q, t, u, v) (nothing b)
  ]
]
  where
    left : (p b : Bool) → (p || (b && false)) ≡ p
    left true b = refl
    left false true = refl
    left false false = refl

    right : (b : Bool) → (b && true) ≡ b
    right true = refl
    right false = refl

    nothing : (b : Bool) → (b && false) ≡ false
    nothing true = refl
    nothing false = refl

smaller_places : (rs : List Refusal) (n : ℕ) → list_all (λ r. ltb r.place n) rs ≡ true → list_all (λ r. ltb r.place (suc n)) rs ≡ true
smaller_places [] n all = refl
smaller_places (r ∷ rs) n all =
    let a = and_parts (ltb r.place n) (list_all (λ r. ltb r.place n) rs) all in
    let lt = ltb-true r.place n a.0 in
    and_from (ltb r.place (suc n)) (list_all (λ r. ltb r.place (suc n)) rs) (lt-ltb r.place (suc n) (omega (arith, lt))) (smaller_places rs n a.1)

rise_push : (rs : List Refusal) (least : ℕ) (r : Refusal) → places_rise least rs ≡ true → list_all (λ s. ltb s.place r.place) rs ≡ true → least ≤ r.place
    → places_rise least (rs ++ r ∷ []) ≡ true
rise_push [] least r rise all le = and_from (leb least r.place) true (le-leb least r.place le) refl
rise_push (s ∷ rs) least r rise all le =
    let a = and_parts (leb least s.place) (places_rise (s.place + 1) rs) rise in
    let b = and_parts (ltb s.place r.place) (list_all (λ s. ltb s.place r.place) rs) all in
    let lt = ltb-true s.place r.place b.0 in
    and_from (leb least s.place) (places_rise (s.place + 1) (rs ++ r ∷ [])) a.0 (rise_push rs (s.place + 1) r a.1 b.1 (omega (arith, lt)))

module _ (rules : Rules) (large small : Frame) (size : ℕ) (m : IsMask large.free) where
  abbrev blocking_smaller : ℕ → List ℕ → Bool
  blocking_smaller k ats = are_blocking (union_byte large 0 size) (map (moved_pairs (k * small.align)) (offered (forbids small))) ats

  abbrev blocking_larger : ℕ → List ℕ → Bool
  blocking_larger k ats = are_blocking (union_byte small (k * small.align) size) (offered (forbids large)) ats

  abbrev none_shared : ℕ → Bool
  none_shared k = is_none (shared_bit large small size (k * small.align))

  shared_first : (k : ℕ) → IsFirst kind.SharedBit (IsNiche rules large small size k kind.SharedBit) (by_bit (shared_bit large small size (k * small.align)))
  shared_first k = wrap_bit rules large small size k (k * small.align) m (λ at. refl)

  of_empty : (r : Refusal) → small.size ≡ 0 → refuses rules large small size r ≡ true → is_none (leading_pattern rules large) ≡ true
  of_empty r none is =
      let t : eqb small.size 0 ≡ true = eq-eqb small.size 0 none in
      let a = is_none_named r.smaller && is_none_named r.larger in
      let b = a && is_none (leading_pattern rules large) in
      let c = blocking_smaller r.place r.smaller && blocking_larger r.place r.larger in
      let p = and_parts (is_place small size r.place && cond (eqb small.size 0) b c) (none_shared r.place) is in
      let q = and_parts (is_place small size r.place) (cond (eqb small.size 0) b c) p.0 in
      (and_parts a (is_none (leading_pattern rules large)) (sym (cond-true (eqb small.size 0) b c t) ∙ q.1)).1

  of_some : (r : Refusal) → small.size ≢ 0 → refuses rules large small size r ≡ true → (blocking_smaller r.place r.smaller ≡ true) × (blocking_larger r.place r.larger ≡ true)
  of_some r some is =
      let t : eqb small.size 0 ≡ false = ne_eqb small.size 0 some in
      let a = is_none_named r.smaller && is_none_named r.larger && is_none (leading_pattern rules large) in
      let b = blocking_smaller r.place r.smaller && blocking_larger r.place r.larger in
      let p = and_parts (is_place small size r.place && cond (eqb small.size 0) a b) (none_shared r.place) is in
      let q = and_parts (is_place small size r.place) (cond (eqb small.size 0) a b) p.0 in
      and_parts (blocking_smaller r.place r.smaller) (blocking_larger r.place r.larger) (sym (cond-false (eqb small.size 0) a b t) ∙ q.1)

  of_bit : (r : Refusal) → refuses rules large small size r ≡ true → none_shared r.place ≡ true
  of_bit r is =
      (and_parts
      (is_place small size r.place
      && cond (eqb small.size 0) (is_none_named r.smaller && is_none_named r.larger && is_none (leading_pattern rules large)) (blocking_smaller r.place r.smaller && blocking_larger r.place r.larger))
      (none_shared r.place) is).1

  -- a place that has a refusal that holds offers nothing
  refused_offers_none : (r : Refusal) → refuses rules large small size r ≡ true → (a : Kind) (n : ℕ) (t : Test) → IsNiche rules large small size r.place a n t → ⊥
  refused_offers_none r is kind.SmallerPattern n t niche =
      let pss : List (List Pair) = map (moved_pairs (r.place * small.align)) (offered (forbids small)) in
      let free : ℕ → ℕ = union_byte large 0 size in
      both_ways (lies_free free (get_or pss n [])) (none_lies free pss r.smaller (of_some r niche.0 is).0 n niche.1.0) niche.1.1
  refused_offers_none r is kind.LargerPattern n t (inl niche) = not_leading (leading_pattern rules large) n t (of_empty r niche.0 is) niche.1
  refused_offers_none r is kind.LargerPattern n t (inr niche) =
      let pss : List (List Pair) = offered (forbids large) in
      let free : ℕ → ℕ = union_byte small (r.place * small.align) size in
      both_ways (lies_free free (get_or pss n [])) (none_lies free pss r.larger (of_some r niche.0 is).1 n niche.1.0) niche.1.1
  refused_offers_none r is kind.SharedBit n t niche =
      none_of (IsNiche rules large small size r.place kind.SharedBit) (shared_bit large small size (r.place * small.align)) (shared_first r.place) (of_bit r is) n t niche
  refused_offers_none r is kind.Tag n t niche = niche

  place_of_refusal : (k : ℕ) → (refusal_at large small size k).place ≡ k
  place_of_refusal k = elim (cases_Bool (eqb small.size 0)) [ inl t ↦ rw t refl | inr f ↦ rw f refl ]

  -- the refusal of a place that offers nothing holds
  offers_none_refused : (k : ℕ) → is_place small size k ≡ true → ((a : Kind) (n : ℕ) (t : Test) → IsNiche rules large small size k a n t → ⊥)
      → refuses rules large small size (refusal_at large small size k) ≡ true
  offers_none_refused k place none =
      let bit : none_shared k ≡ true = is_none_of (IsNiche rules large small size k kind.SharedBit) (shared_bit large small size (k * small.align)) (shared_first k) (none kind.SharedBit) in
      elim (cases_eq small.size 0) [
        | inl empty ↦
            let t : eqb small.size 0 ≡ true = eq-eqb small.size 0 empty in
            let o = leading_pattern rules large in
            let lead : is_none o ≡ true = is_none_leading o (λ n t lead. none kind.LargerPattern n t (inl (empty, lead))) in
            rw t (and_from (eqb k 0 && is_none o) (none_shared k) (and_from (eqb k 0) (is_none o) (rw t at place) lead) bit)
        | inr some ↦
            let t : eqb small.size 0 ≡ false = ne_eqb small.size 0 some in
            let fits = ltb k 8 && leb (k * small.align + small.size) size in
            let pss : List (List Pair) = map (moved_pairs (k * small.align)) (offered (forbids small)) in
            let qss : List (List Pair) = offered (forbids large) in
            let free : ℕ → ℕ = union_byte large 0 size in
            let free_too : ℕ → ℕ = union_byte small (k * small.align) size in
            let a : are_blocking free pss (map (first_blocking free) pss) ≡ true = all_block free pss (λ n lt. false_from_ne_true (lies_free free (get_or pss n []))
            (λ lies. none kind.SmallerPattern n (test.ValueIsErr (get_or pss n [])) (some, (lt, lies, refl)))) in
            let b : are_blocking free_too qss (map (first_blocking free_too) qss) ≡ true = all_block free_too qss (λ n lt. false_from_ne_true (lies_free free_too (get_or qss n []))
            (λ lies. none kind.LargerPattern n (test.ValueIsErr (get_or qss n [])) (inr (some, (lt, lies, refl))))) in
            let x = are_blocking free pss (map (first_blocking free) pss) in
            let y = are_blocking free_too qss (map (first_blocking free_too) qss) in
            rw t (and_from (fits && (x && y)) (none_shared k) (and_from fits (x && y) (rw t at place) (and_from x y a b)) bit)
      ]

  abbrev one : ℕ → List Refusal
  one k = cond (is_place small size k) (refusal_at large small size k ∷ []) []

  -- the refusals of the places below n hold where none of these places offers anything
  below_hold : (n : ℕ) → OffersNone rules large small size n → list_all (refuses rules large small size) (refusals_below large small size n) ≡ true
  unfolding refusals_below
  below_hold zero none = refl
  below_hold (suc n) none =
      list_all-append (refuses rules large small size) (refusals_below large small size n) (one n)
      ∙ and_from (list_all (refuses rules large small size) (refusals_below large small size n)) (list_all (refuses rules large small size) (one n))
      (below_hold n (λ k lt. none k (omega (arith, lt)))) (here (is_place small size n) refl)
    where
      here : (b : Bool) → is_place small size n ≡ b → list_all (refuses rules large small size) (cond b (refusal_at large small size n ∷ []) []) ≡ true
      here false place = refl
      here true place = and_from (refuses rules large small size (refusal_at large small size n)) true (offers_none_refused n place (none n (omega arith) place)) refl

  -- one for each existing place
  below_each : (n k : ℕ) → list_any (λ r. eqb r.place k) (refusals_below large small size n) ≡ (ltb k n && is_place small size k)
  unfolding refusals_below
  below_each zero k = let t : ltb k 0 ≡ false = le-ltb k 0 (omega arith) in rw t refl
  below_each (suc n) k =
      list_any-append (λ r. eqb r.place k) (refusals_below large small size n) (one n)
      ∙ (let e = below_each n k in rw e (here (is_place small size n) refl))
    where
      named : (b : Bool) → list_any (λ r. eqb r.place k) (cond b (refusal_at large small size n ∷ []) []) ≡ (b && eqb n k)
      named false = refl
      named true = or_none (eqb (refusal_at large small size n).place k) ∙ ap (λ (x : ℕ). eqb x k) (place_of_refusal n)

      here : (b : Bool) → is_place small size n ≡ b
          → ((ltb k n && is_place small size k) || list_any (λ r. eqb r.place k) (cond b (refusal_at large small size n ∷ []) [])) ≡ (ltb k (suc n) && is_place small size k)
      here b place =
          each_more n k (is_place small size k) b (list_any (λ r. eqb r.place k) (cond b (refusal_at large small size n ∷ []) [])) (named b)
          (λ same. subst (λ (x : ℕ). is_place small size x ≡ b) same place)

  below_small : (n : ℕ) → list_all (λ r. ltb r.place n) (refusals_below large small size n) ≡ true
  unfolding refusals_below
  below_small zero = refl
  below_small (suc n) =
      list_all-append (λ r. ltb r.place (suc n)) (refusals_below large small size n) (one n)
      ∙ and_from (list_all (λ r. ltb r.place (suc n)) (refusals_below large small size n)) (list_all (λ r. ltb r.place (suc n)) (one n))
      (smaller_places (refusals_below large small size n) n (below_small n)) (here (is_place small size n))
    where
      here : (b : Bool) → list_all (λ r. ltb r.place (suc n)) (cond b (refusal_at large small size n ∷ []) []) ≡ true
      here false = refl
      here true =
          and_from (ltb (refusal_at large small size n).place (suc n)) true
          (subst (λ (x : ℕ). ltb x (suc n) ≡ true) (sym (place_of_refusal n)) (lt-ltb n (suc n) (omega arith))) refl

  -- by rising place
  below_rise : (n : ℕ) → places_rise 0 (refusals_below large small size n) ≡ true
  unfolding refusals_below
  below_rise zero = refl
  below_rise (suc n) = here (is_place small size n) (below_rise n)
    where
      here : (b : Bool) → places_rise 0 (refusals_below large small size n) ≡ true → places_rise 0 (refusals_below large small size n ++ cond b (refusal_at large small size n ∷ []) []) ≡ true
      here false rises = rw (append-nil (refusals_below large small size n)) rises
      here true rises =
          rise_push (refusals_below large small size n) 0 (refusal_at large small size n) rises
          (subst (λ (x : ℕ). list_all (λ r. ltb r.place x) (refusals_below large small size n) ≡ true) (sym (place_of_refusal n)) (below_small n)) (omega arith)

any_larger : (ok err : Frame) → IsMask ok.free → IsMask err.free → IsMask (larger ok err).free
any_larger ok err mo me = pick (λ f. IsMask f.free) (ok_is_larger ok err) ok err mo me

pub refused : RefusedLaw
unfolding written_placement
refused rules ok err mo me =
    by_search (first_offer rules (larger ok err) (smaller ok err) (union_size ok err) 8) (search_of rules ok err mo me)
  where
    by_search : (o : Option (ℕ × Niche)) → IsFirstBelow rules (larger ok err) (smaller ok err) (union_size ok err) 8 o
        → ((placement_of ok err o).kind ≡ kind.Tag) ↔ AllRefuse rules ok err
    by_search None none = (
      λ is k place. (
        refusal_at (larger ok err) (smaller ok err) (union_size ok err) k,
        place_of_refusal rules (larger ok err) (smaller ok err) (union_size ok err) (any_larger ok err mo me) k,
        offers_none_refused rules (larger ok err) (smaller ok err) (union_size ok err) (any_larger ok err mo me) k place
            (none k (place_below (smaller ok err) (union_size ok err) k place) place),
      ),
      λ all. refl,
    )
    by_search (Some found) f = (
      λ is. absurd (subst (λ (x : Kind). IsNiche rules (larger ok err) (smaller ok err) (union_size ok err) found.0 x f.2.0 found.1.test) is f.2.1),
      λ all. let r = all found.0 f.1 in
          absurd (refused_offers_none rules (larger ok err) (smaller ok err) (union_size ok err) (any_larger ok err mo me) r.0 r.2 found.1.kind f.2.0 found.1.test
          (subst (λ (x : ℕ). IsNiche rules (larger ok err) (smaller ok err) (union_size ok err) x found.1.kind f.2.0 found.1.test) (sym r.1) f.2.1)),
    )

pub complete : RefusalsLaw
unfolding written_placement
complete rules ok err mo me =
    by_search (first_offer rules (larger ok err) (smaller ok err) (union_size ok err) 8) (search_of rules ok err mo me)
  where
    by_search : (o : Option (ℕ × Niche)) → IsFirstBelow rules (larger ok err) (smaller ok err) (union_size ok err) 8 o
        → ((placement_of ok err o).kind ≡ kind.Tag → AreComplete rules ok err (placement_of ok err o).refusals) × ((placement_of ok err o).kind ≢ kind.Tag → (placement_of ok err o).refusals ≡ [])
    by_search None none =
        let m = any_larger ok err mo me in
        let u = union_size ok err in
        let s = smaller ok err in (
          λ is. record {
            hold = below_hold rules (larger ok err) s u m 8 none;
            rise = below_rise rules (larger ok err) s u m 8;
            each = λ k. below_each rules (larger ok err) s u m 8 k ∙ within (ltb k 8) (is_place s u k) (λ place. lt-ltb k 8 (place_below s u k place));
          },
          λ is. absurd (is refl),
        )
    by_search (Some found) f =
        (λ is. absurd (subst (λ (x : Kind). IsNiche rules (larger ok err) (smaller ok err) (union_size ok err) found.0 x f.2.0 found.1.test) is f.2.1), λ is. refl)
