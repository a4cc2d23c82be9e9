-- The laws of places and placements in other words.
use Rattle.std.proofs.Common.{◌≡◌, ◌≢◌, ◌↔◌, ℕ, zero, suc, ◌+◌, ◌*◌, ◌/◌, ◌%◌, ◌^◌, ◌<◌, ◌≤◌, Bool, true, false, not, List, [], ◌∷◌, Option, Some, None, length, get_or, cond, eqb, ltb, leb, bit_and, refl, sym, ap, ◌∙◌, subst, inl, inr, arith}
use Rattle.std.specs.Int.{bit_at, bit_not, w8}
use Rattle.std.proofs.Math.Nat.{div-add-mod, mul-le-mul_right, mul-mod_left, mul_comm, zero-mul}
use Rattle.std.proofs.lemmas.Bool.{and_parts, and_from, ltb-true, leb-true, eqb-true, eqb-false, ne_eqb, eq-eqb, lt-ltb, le-leb, lt-leb, cases_lt, cases_eq, cases_Bool}
use Rattle.std.proofs.lemmas.Nat.{pow_pos}
use Rattle.std.proofs.lemmas.Nat.Bits.{bit_at-lt, bit_at_ones, bit_at_not, bit_at-pow_other, and_pow}
use Rattle.abi_bits.specs.Pairs.{Pair, is_matched}
use Rattle.abi_bits.specs.Mask.{mask_at, IsMask, entries_below}
use Rattle.abi_bits.proofs.Entries.{entries_at}
use Rattle.abi_det.specs.Frame.{Frame, IsLawful}
use Rattle.abi_det.specs.Roles.{ok_is_larger, larger, smaller, sum_align, union_size, is_place}
use Rattle.abi_det.specs.Offers.{Rules, Niche, leading_pattern, first_offer}
use Rattle.abi_det.specs.Niches.{IsLeading, IsNiche, IsFirstBelow}
use Rattle.abi_det.specs.State.{test_holds, is_state_ok, is_tested}
use Rattle.abi_det.specs.Written.{beside_tag, placement_of, written_placement}
use Rattle.abi_det.specs.PlaceLaws.{IsUnion, FitsAt, PositionsLaw, TellsLarger, TellsSmaller, TagMeaningLaw, TakesFirstBit, TagPlaceLaw, HasValue, ByValue, NicheMeaningLaw}
use Rattle.abi_det.specs.declared.placements.Placement.{Placement}
use Rattle.abi_det.specs.declared.placements.Kind.{Kind}
use Rattle.abi_det.specs.declared.placements.Kind.TheVariants as kind
use Rattle.abi_det.specs.declared.determinant.Test.{Test}
use Rattle.abi_det.specs.declared.determinant.Test.TheVariants as test
use Rattle.abi_det.proofs.Chosen.{search_of}
use Rattle.abi_det.proofs.Lawful.{parts}
use Rattle.abi_det.proofs.SoundPlacements.{exported_bit}
use Rattle.abi_det.proofs.Sizes.{alignment_positive, sum_alignment, union_least}

union_only : (ok err : Frame) (size : ℕ) → IsLawful ok → IsLawful err → IsUnion ok err size → size ≡ union_size ok err
union_only ok err size a b is =
    let u = union_least ok err a b in
    let below : size ≤ union_size ok err = is.least (union_size ok err) u.2 u.0 u.1 in
    let above : union_size ok err ≤ size = u.3 size is.ok_inside is.err_inside is.whole in
    omega (arith, below, above)

fits_known : (small : Frame) (size start : ℕ) → 0 < small.align → FitsAt small size start
    → (k : ℕ) × (start ≡ k * small.align) × (is_place small size k ≡ true)
fits_known small size start pos fits = elim (cases_eq small.size 0) [
  | inl none ↦
      let t : eqb small.size 0 ≡ true = eq-eqb small.size 0 none in
      (0, fits.empty none ∙ sym (zero-mul small.align), rw t refl)
  | inr some ↦
      let t : eqb small.size 0 ≡ false = ne_eqb small.size 0 some in
      let k : ℕ = start / small.align in
      let q : start ≡ k * small.align = omega (arith, div-add-mod start small.align, fits.aligned, mul_comm k small.align) in
      let lt : k < 8 = elim (cases_lt k 8) [
        | inl lt ↦ lt
        | inr le ↦ absurd (omega (arith, mul-le-mul_right small.align le, q, fits.early, pos))
      ] in
      let le : k * small.align + small.size ≤ size = omega (arith, q, fits.inside) in
      (k, q, rw t (and_from (ltb k 8) (leb (k * small.align + small.size) size) (lt-ltb k 8 lt) (le-leb (k * small.align + small.size) size le)))
]

known_fits : (small : Frame) (size start : ℕ) → (k : ℕ) × (start ≡ k * small.align) × (is_place small size k ≡ true)
    → small.size ≤ size → FitsAt small size start
known_fits small size start known inside = elim (cases_eq small.size 0) [
  | inl none ↦
      let t : eqb small.size 0 ≡ true = eq-eqb small.size 0 none in
      let first : known.0 ≡ 0 = eqb-true known.0 0 (rw t at known.2) in
      let start_is : start ≡ 0 = known.1 ∙ (rw first (zero-mul small.align)) in
      record {
        aligned = whole known.0 known.1;
        early = omega (arith, start_is);
        inside = omega (arith, start_is, inside);
        empty = λ _. start_is;
      }
  | inr some ↦
      let t : eqb small.size 0 ≡ false = ne_eqb small.size 0 some in
      let p = and_parts (ltb known.0 8) (leb (known.0 * small.align + small.size) size) (rw t at known.2) in
      let lt : known.0 < 8 = ltb-true known.0 8 p.0 in
      let few : known.0 ≤ 7 = omega (arith, lt) in
      let le : known.0 * small.align + small.size ≤ size = leb-true (known.0 * small.align + small.size) size p.1 in
      record {
        aligned = whole known.0 known.1;
        early = omega (arith, known.1, mul-le-mul_right small.align few);
        inside = omega (arith, known.1, le);
        empty = λ none. absurd (some none);
      }
]
  where
    whole : (k : ℕ) → start ≡ k * small.align → start % small.align ≡ 0
    whole k q = rw q (mul-mod_left k small.align)

pub positions : PositionsLaw
positions ok err size start a b is =
    let u = union_only ok err size a b is in (
      λ le. let t : leb err.size ok.size ≡ true = le-leb err.size ok.size le in
          rw (t, ← u)
          (fits_known err size start (alignment_positive err.align (parts err b).align), λ known. known_fits err size start known is.err_inside),
      λ lt. let t : leb err.size ok.size ≡ false = lt-leb err.size ok.size lt in
          rw (t, ← u)
          (fits_known ok size start (alignment_positive ok.align (parts ok a).align), λ known. known_fits ok size start known is.ok_inside),
    )

twice : (b : Bool) → not (not b) ≡ b
twice true = refl
twice false = refl

-- what is told follows the sizes
module _ (ok err : Frame) (p : Placement) (image : ℕ → ℕ) where
  larger_told : is_state_ok p.determinant image ≡ ok_is_larger ok err → TellsLarger ok err p image
  larger_told is = (
    λ le. let t : leb err.size ok.size ≡ true = le-leb err.size ok.size le in is ∙ t,
    λ lt. let t : leb err.size ok.size ≡ false = lt-leb err.size ok.size lt in is ∙ t,
  )

  smaller_told : is_state_ok p.determinant image ≡ not (ok_is_larger ok err) → TellsSmaller ok err p image
  smaller_told is = (
    λ le. let t : leb err.size ok.size ≡ true = le-leb err.size ok.size le in rw t at is,
    λ lt. let t : leb err.size ok.size ≡ false = lt-leb err.size ok.size lt in rw t at is,
  )

  -- a determinant that is `Ok` where its test holds
  same_told : (b t : Bool) → t ≡ true → cond b t (not t) ≡ b
  same_told true t is = is
  same_told false t is = rw is refl

  other_told : (b t : Bool) → t ≡ false → cond b t (not t) ≡ not b
  other_told true t is = is
  other_told false t is = rw is refl

matched_values : (ps : List Pair) (image : ℕ → ℕ) → ((n : ℕ) → n < length ps → image (get_or ps n (0, 0)).0 ≡ (get_or ps n (0, 0)).1) → is_matched ps image ≡ true
matched_values [] image all = refl
matched_values (p ∷ ps) image all =
    and_from (eqb (image p.0) p.1) (is_matched ps image) (eq-eqb (image p.0) p.1 (all 0 (omega arith)))
    (matched_values ps image (λ n lt. all (suc n) (omega (arith, lt))))

values_matched : (ps : List Pair) (image : ℕ → ℕ) → is_matched ps image ≡ true → (n : ℕ) → n < length ps → image (get_or ps n (0, 0)).0 ≡ (get_or ps n (0, 0)).1
values_matched [] image is n lt = absurd (omega (arith, lt))
values_matched (p ∷ ps) image is zero lt = eqb-true (image p.0) p.1 (and_parts (eqb (image p.0) p.1) (is_matched ps image) is).0
values_matched (p ∷ ps) image is (suc n) lt = values_matched ps image (and_parts (eqb (image p.0) p.1) (is_matched ps image) is).1 n (omega (arith, lt))

-- a test of one bit holds where that binary digit is a 1
digit_test : (x b d : ℕ) → bit_at x b ≡ d → d < 2 → not (eqb (bit_and x (2 ^ b)) 0) ≡ eqb d 1
digit_test x b d is lt = elim (cases_eq d 0) [
  | inl none ↦
      let e : bit_and x (2 ^ b) ≡ 0 = and_pow x b ∙ ap (λ (v : ℕ). v * 2 ^ b) (is ∙ none) ∙ zero-mul (2 ^ b) in
      rw (eq-eqb (bit_and x (2 ^ b)) 0 e, none) refl
  | inr some ↦
      let one : d ≡ 1 = omega (arith, some, lt) in
      let e : bit_and x (2 ^ b) ≡ 2 ^ b = and_pow x b ∙ ap (λ (v : ℕ). v * 2 ^ b) (is ∙ one) ∙ omega arith in
      let f : eqb (bit_and x (2 ^ b)) 0 ≡ false = ne_eqb (bit_and x (2 ^ b)) 0 (λ q. absurd (omega (arith, pow_pos b, e, q))) in
      rw (f, one) refl
]

-- a niche has its value where its test holds, and not where the test does not
abbrev IsDecided : Test → (ℕ → ℕ) → Type 0
IsDecided t image = (HasValue t image → test_holds t image ≡ true) × ((HasValue t image → ⊥) → test_holds t image ≡ false)

pattern_decided : (ps : List Pair) (image : ℕ → ℕ) → IsDecided (test.ValueIsErr ps) image
pattern_decided ps image = (
  matched_values ps image,
  λ no. elim (cases_Bool (is_matched ps image)) [
    | inl t ↦ absurd (no (values_matched ps image t))
    | inr f ↦ f
  ],
)

bit_decided : (o b : ℕ) (image : ℕ → ℕ) → IsDecided (test.BitIsErr o (2 ^ b)) image
bit_decided o b image = (
  λ has. one_there has,
  λ no. let ne : bit_at (image o) b ≢ 1 = λ q. no (b, refl, q) in
      digit_test (image o) b (bit_at (image o) b) refl (bit_at-lt (image o) b) ∙ ne_eqb (bit_at (image o) b) 1 ne,
)
  where
    one_there : (c : ℕ) × (2 ^ b ≡ 2 ^ c) × (image o / 2 ^ c % 2 ≡ 1) → not (eqb (bit_and (image o) (2 ^ b)) 0) ≡ true
    one_there has =
        let e : image o / 2 ^ b % 2 ≡ 1 = rw has.1 has.2 in
        digit_test (image o) b 1 e (omega arith)

niche_decided : (rules : Rules) (large small : Frame) (size k n : ℕ) (a : Kind) (t : Test) (image : ℕ → ℕ) → IsNiche rules large small size k a n t → IsDecided t image
niche_decided rules large small size k n kind.SmallerPattern t image is = subst (λ (x : Test). IsDecided x image) (sym is.1.2) (pattern_decided _ image)
niche_decided rules large small size k n kind.LargerPattern t image (inl is) = leading (leading_pattern rules large) is.1
  where
    leading : (o : Option (List Pair)) → IsLeading o n t → IsDecided t image
    leading None lead = absurd lead
    leading (Some ps) lead = subst (λ (x : Test). IsDecided x image) (sym lead.1) (pattern_decided ps image)
niche_decided rules large small size k n kind.LargerPattern t image (inr is) = subst (λ (x : Test). IsDecided x image) (sym is.1.2) (pattern_decided _ image)
niche_decided rules large small size k n kind.SharedBit t image is = subst (λ (x : Test). IsDecided x image) (sym is.2) (bit_decided (n / 8) (n % 8) image)
niche_decided rules large small size k n kind.Tag t image is = absurd is

-- what the written placement is, by what the search found
by_search : (rules : Rules) (ok err : Frame) (P : Placement → Type 0)
    → ((o : Option (ℕ × Niche)) → IsFirstBelow rules (larger ok err) (smaller ok err) (union_size ok err) 8 o → P (placement_of ok err o))
    → IsMask ok.free → IsMask err.free → P (written_placement rules ok err)
unfolding written_placement
by_search rules ok err P each mo me =
    each (first_offer rules (larger ok err) (smaller ok err) (union_size ok err) 8) (search_of rules ok err mo me)

-- a niche is no tag
niche_kind : (rules : Rules) (ok err : Frame) (found : ℕ × Niche) → IsFirstBelow rules (larger ok err) (smaller ok err) (union_size ok err) 8 (Some found)
    → (placement_of ok err (Some found)).kind ≡ kind.Tag → ⊥
niche_kind rules ok err found f is =
    subst (λ (a : Kind). IsNiche rules (larger ok err) (smaller ok err) (union_size ok err) found.0 a f.2.0 found.1.test) is f.2.1

abbrev TagMeans : Frame → Frame → (ℕ → ℕ) → Placement → Type 0
TagMeans ok err image p =
    p.kind ≡ kind.Tag → (image 0 % 2 ≡ 1 → TellsSmaller ok err p image) × (image 0 % 2 ≡ 0 → TellsLarger ok err p image)

pub tag_meaning : TagMeaningLaw
tag_meaning rules ok err image mo me = by_search rules ok err (TagMeans ok err image) each mo me
  where
    each : (o : Option (ℕ × Niche)) → IsFirstBelow rules (larger ok err) (smaller ok err) (union_size ok err) 8 o → TagMeans ok err image (placement_of ok err o)
    each (Some found) f is = absurd (niche_kind rules ok err found f is)
    each None f is =
        let p : Placement = placement_of ok err None in
        let b : Bool = ok_is_larger ok err in (
          λ one. smaller_told ok err p image (same_told ok err p image (not b) (test_holds test.BitDeterminant image) (eq-eqb (bit_at (image 0) 0) 1 (omega (arith, one)))),
          λ none. larger_told ok err p image (other_told ok err p image (not b) (test_holds test.BitDeterminant image)
              (ne_eqb (bit_at (image 0) 0) 1 (λ q. absurd (omega (arith, none, q)))) ∙ twice b),
        )

abbrev NicheMeans : Frame → Frame → (ℕ → ℕ) → Placement → Type 0
NicheMeans ok err image p =
    (p.kind ≡ kind.SmallerPattern → ByValue p image (TellsLarger ok err p image) (TellsSmaller ok err p image))
    × (p.kind ≡ kind.LargerPattern → ByValue p image (TellsSmaller ok err p image) (TellsLarger ok err p image))
    × (p.kind ≡ kind.SharedBit → ByValue p image (TellsSmaller ok err p image) (TellsLarger ok err p image))

pub niche_meaning : NicheMeaningLaw
niche_meaning rules ok err image mo me = by_search rules ok err (NicheMeans ok err image) each mo me
  where
    -- a determinant that is `Ok` as the larger variant is where its test holds, and one that is the reverse
    as_larger : (p : Placement) → p.determinant.«not» ≡ ok_is_larger ok err → IsDecided p.determinant.test image
        → ByValue p image (TellsLarger ok err p image) (TellsSmaller ok err p image)
    as_larger p is d = (
      λ has. larger_told ok err p image (same_told ok err p image p.determinant.«not» (test_holds p.determinant.test image) (d.0 has) ∙ is),
      λ no. smaller_told ok err p image (other_told ok err p image p.determinant.«not» (test_holds p.determinant.test image) (d.1 no) ∙ ap not is),
    )

    as_smaller : (p : Placement) → p.determinant.«not» ≡ not (ok_is_larger ok err) → IsDecided p.determinant.test image
        → ByValue p image (TellsSmaller ok err p image) (TellsLarger ok err p image)
    as_smaller p is d = (
      λ has. smaller_told ok err p image (same_told ok err p image p.determinant.«not» (test_holds p.determinant.test image) (d.0 has) ∙ is),
      λ no. larger_told ok err p image (other_told ok err p image p.determinant.«not» (test_holds p.determinant.test image) (d.1 no) ∙ ap not is ∙ twice (ok_is_larger ok err)),
    )

    of_kind : (k : ℕ) (a : Kind) (t : Test) → IsDecided t image → NicheMeans ok err image (placement_of ok err (Some (k, record { kind = a; test = t })))
    of_kind k kind.SmallerPattern t d = (λ is. as_larger (placement_of ok err (Some (k, record { kind = kind.SmallerPattern; test = t }))) refl d, λ is. absurd (cc), λ is. absurd (cc))
    of_kind k kind.LargerPattern t d = (λ is. absurd (cc), λ is. as_smaller (placement_of ok err (Some (k, record { kind = kind.LargerPattern; test = t }))) refl d, λ is. absurd (cc))
    of_kind k kind.SharedBit t d = (λ is. absurd (cc), λ is. absurd (cc), λ is. as_smaller (placement_of ok err (Some (k, record { kind = kind.SharedBit; test = t }))) refl d)
    of_kind k kind.Tag t d = (λ is. absurd (cc), λ is. absurd (cc), λ is. absurd (cc))

    each : (o : Option (ℕ × Niche)) → IsFirstBelow rules (larger ok err) (smaller ok err) (union_size ok err) 8 o → NicheMeans ok err image (placement_of ok err o)
    each None f = (λ is. absurd (cc), λ is. absurd (cc), λ is. absurd (cc))
    each (Some found) f =
        of_kind found.0 found.1.kind found.1.test (niche_decided rules (larger ok err) (smaller ok err) (union_size ok err) found.0 f.2.0 found.1.kind found.1.test image f.2.1)

-- bit k of byte 254 is a 1, but for the lowest
bit_beside_tag : (k : ℕ) → k < 8 → 0 < k → bit_at 254 k ≡ 1
bit_beside_tag k lt some =
    let none : bit_at 1 k ≡ 0 = bit_at-pow_other 0 k (λ q. absurd (omega (arith, some, q))) in
    let one : bit_at (bit_not w8 1) k ≡ 1 = bit_at_not w8 1 k (omega arith) lt ∙ (rw none refl) in
    one

tag_takes : (at k : ℕ) → k < 8 → (is_tested test.BitDeterminant at k ≡ true) ↔ (8 * at + k ≡ 0)
tag_takes at k lt = elim (cases_eq at 0) [
  | inl first ↦
      let t : eqb at 0 ≡ true = eq-eqb at 0 first in
      rw t (λ is. omega (arith, first, eqb-true k 0 is), λ is. eq-eqb k 0 (omega (arith, is)))
  | inr later ↦
      let t : eqb at 0 ≡ false = ne_eqb at 0 later in
      rw t (λ is. absurd (cc), λ is. absurd (later (omega (arith, is))))
]

tag_leaves : (front at k : ℕ) → k < 8 → (bit_at (mask_at (entries_below beside_tag front) at) k ≡ 1) ↔ ((0 < 8 * at + k) × (at < front))
tag_leaves front at k lt = (
  λ is. (later (eqb at 0) refl (exported_bit beside_tag front at k is).1, (exported_bit beside_tag front at k is).0),
  λ is. rw (entries_at beside_tag front at, lt-ltb at front is.1) (there (eqb at 0) refl is.0),
)
  where
    later : (t : Bool) → eqb at 0 ≡ t → bit_at (cond t 254 255) k ≡ 1 → 0 < 8 * at + k
    later true e is = elim (cases_eq k 0) [
      | inl low ↦ absurd (let h : bit_at 254 0 ≡ 1 = rw low at is in cc)
      | inr some ↦ omega (arith, some)
    ]
    later false e is = let ne = eqb-false at 0 e in omega (arith, ne)

    there : (t : Bool) → eqb at 0 ≡ t → 0 < 8 * at + k → bit_at (cond t 254 255) k ≡ 1
    there true e some = bit_beside_tag k lt (omega (arith, some, eqb-true at 0 e))
    there false e some = bit_at_ones 8 k lt

pub tag_place : TagPlaceLaw
tag_place rules ok err a b mo me = by_search rules ok err (λ p. p.kind ≡ kind.Tag → TakesFirstBit ok err p) each mo me
  where
    each : (o : Option (ℕ × Niche)) → IsFirstBelow rules (larger ok err) (smaller ok err) (union_size ok err) 8 o
        → (placement_of ok err o).kind ≡ kind.Tag → TakesFirstBit ok err (placement_of ok err o)
    each (Some found) f is = absurd (niche_kind rules ok err found f is)
    each None f is = record {
      front = refl;
      room = alignment_positive (sum_align ok err) (sum_alignment ok err a b);
      ok_behind = refl;
      err_behind = refl;
      taken = tag_takes;
      left = tag_leaves (sum_align ok err);
    }
