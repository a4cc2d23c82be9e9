-- The search for a placement finds the first niche of the first place that offers one.
use Rattle.std.proofs.Common.{◌≡◌, ℕ, zero, suc, ◌+◌, ◌-◌, ◌*◌, ◌/◌, ◌%◌, ◌^◌, ◌<◌, Bool, true, false, List, [], ◌∷◌, Option, Some, None, map, length, get_or, cond, eqb, ltb, refl, sym, ap, ◌≢◌, ◌∙◌, subst, inl, inr, arith}
use Rattle.std.specs.List.{find}
use Rattle.std.specs.Int.{bit_at, trailing_zeros, w8}
use Rattle.std.proofs.lemmas.Nat.{and_le_l}
use Rattle.std.proofs.lemmas.Nat.Bits.{bit_at-zero}
use Rattle.std.proofs.lemmas.Bool.{ne_eqb, eq-eqb, cases_lt, cases_eq, cases_Bool, both_ways}
use Rattle.abi_bits.specs.Pairs.{Pair, moved_pairs}
use Rattle.abi_bits.specs.Mask.{mask_at, IsMask, entries_below, least_bit}
use Rattle.abi_bits.specs.Forbidden.{offered}
use Rattle.abi_bits.proofs.Entries.{mask_at_lt}
use Rattle.abi_bits.proofs.Least.{low_bit}
use Rattle.abi_det.specs.Frame.{Frame, forbids}
use Rattle.abi_det.specs.Roles.{union_byte, lies_free, spare_byte, is_place}
use Rattle.abi_det.specs.Offers.{Rules, Niche, or_else, by_pattern, by_bit, smaller_pattern, larger_pattern, leading_pattern, shared_bit, offer_at, numbered, first_offer}
use Rattle.abi_det.specs.Niches.{IsFreePattern, IsFreeBit, IsLeading, IsNiche, rank, IsSooner, IsFirstAt, OffersNone, IsFirstBelow}
use Rattle.abi_det.specs.declared.placements.Kind.{Kind}
use Rattle.abi_det.specs.declared.placements.Kind.TheVariants as kind
use Rattle.abi_det.specs.declared.determinant.Test.{Test}
use Rattle.abi_det.specs.declared.determinant.Test.TheVariants as test
use Rattle.abi_det.proofs.FirstBytes.{FirstByte, first_byte}

-- the first element that passes, with its number
abbrev pub FoundAt : {A : Type 0} → (A → Bool) → A → List A → Option A → Type 0
FoundAt p d xs None = (m : ℕ) → m < length xs → p (get_or xs m d) ≡ false
FoundAt p d xs (Some x) = (n : ℕ) × (n < length xs) × (get_or xs n d ≡ x) × (p (get_or xs n d) ≡ true) × ((m : ℕ) → m < n → p (get_or xs m d) ≡ false)

found_later : {A : Type 0} (p : A → Bool) (d x : A) (xs : List A) (o : Option A) → p x ≡ false → FoundAt p d xs o → FoundAt p d (x ∷ xs) o
found_later p d x xs None f rest = λ m lt. here m lt
  where
    here : (m : ℕ) → m < suc (length xs) → p (get_or (x ∷ xs) m d) ≡ false
    here zero lt = f
    here (suc m) lt = rest m (omega (arith, lt))
found_later p d x xs (Some y) f rest = (suc rest.0, omega (arith, rest.1), rest.2, rest.3, λ m lt. here m lt)
  where
    here : (m : ℕ) → m < suc rest.0 → p (get_or (x ∷ xs) m d) ≡ false
    here zero lt = f
    here (suc m) lt = rest.4 m (omega (arith, lt))

pub found : {A : Type 0} (p : A → Bool) (d : A) (xs : List A) → FoundAt p d xs (find p xs)
found p d [] = λ m lt. absurd (omega (arith, lt))
found p d (x ∷ xs) = elim (cases_Bool (p x)) [
  | inl t ↦ rw t (0, omega arith, refl, t, λ m lt. absurd (omega (arith, lt)))
  | inr f ↦ rw f (found_later p d x xs (find p xs) f (found p d xs))
]

-- what holds of 255, of a byte and of 0 holds of a byte of a union
byte_of_union : (P : ℕ → Type 0) (a b c : Bool) (x : ℕ) → P 255 → P x → P 0 → P (cond a (cond b 255 (cond c x 255)) 0)
byte_of_union P false b c x all own none = none
byte_of_union P true true c x all own none = all
byte_of_union P true false true x all own none = own
byte_of_union P true false false x all own none = all

pub union_small : (f : Frame) (shift size at : ℕ) → IsMask f.free → union_byte f shift size at < 256
union_small f shift size at m =
    byte_of_union (λ x. x < 256) (ltb at size) (ltb at shift) (ltb at (shift + f.size)) (mask_at f.free (at - shift))
    (omega arith) (mask_at_lt f.free (at - shift) m) (omega arith)

pub spare_small : (large small : Frame) (shift size at : ℕ) → IsMask large.free → spare_byte large small shift size at < 256
spare_small large small shift size at m = elim (cases_Bool (eqb small.size 0)) [
  | inl t ↦ rw t (mask_at_lt large.free at m)
  | inr f ↦ rw f (omega (arith, and_le_l (union_byte large 0 size at) (union_byte small shift size at), union_small large 0 size at m))
]

-- what one kind offers at a place: its first niche, or none
abbrev pub IsFirst : Kind → (ℕ → Test → Type 0) → Option Niche → Type 0
IsFirst a P None = (m : ℕ) (t : Test) → P m t → ⊥
IsFirst a P (Some niche) = (niche.kind ≡ a) × (n : ℕ) × P n niche.test × ((m : ℕ) (t : Test) → P m t → m < n → ⊥)

first_of_same : (a : Kind) (P Q : ℕ → Test → Type 0) → ((n : ℕ) (t : Test) → P n t → Q n t) → ((n : ℕ) (t : Test) → Q n t → P n t) → (o : Option Niche)
    → IsFirst a P o → IsFirst a Q o
first_of_same a P Q there back None none = λ m t is. none m t (back m t is)
first_of_same a P Q there back (Some niche) f = (f.0, f.1, there f.1 niche.test f.2, λ m t is lt. f.3 m t (back m t is) lt)

pattern_first : (a : Kind) (free : ℕ → ℕ) (pss : List (List Pair)) (o : Option (List Pair)) → FoundAt (lies_free free) [] pss o
    → IsFirst a (IsFreePattern free pss) (by_pattern a o)
pattern_first a free pss None none = λ m t is. both_ways (lies_free free (get_or pss m [])) (none m is.0) is.1
pattern_first a free pss (Some ps) f =
    (refl, f.0, (f.1, f.3, ap test.ValueIsErr (sym f.2)), λ m t is lt. both_ways (lies_free free (get_or pss m [])) (f.4 m lt) is.1)

leading_first : (o : Option (List Pair)) → IsFirst kind.LargerPattern (IsLeading o) (by_pattern kind.LargerPattern o)
leading_first None = λ m t is. is
leading_first (Some ps) = (refl, 0, (refl, refl), λ m t is lt. omega (arith, is.0, lt))

split_number : (n o b : ℕ) → b < 8 → n ≡ 8 * o + b → (n / 8 ≡ o) × (n % 8 ≡ b)
split_number n o b lt q = (omega (arith, lt, q), omega (arith, lt, q))

bit_test : (o v b n : ℕ) → v ≡ 2 ^ b → n / 8 ≡ o → n % 8 ≡ b → test.BitIsErr o v ≡ test.BitIsErr (n / 8) (2 ^ (n % 8))
bit_test o v b n q x y = rw (x, y) (ap (test.BitIsErr o) q)

no_lower : (bits : ℕ → ℕ) (o b m : ℕ) → b < 8 → ((at : ℕ) → at < o → bits at ≡ 0) → ((i : ℕ) → i < b → bit_at (bits o) i ≡ 0)
    → m < 8 * o + b → bit_at (bits (m / 8)) (m % 8) ≡ 1 → ⊥
no_lower bits o b m lt none low less is = elim (cases_lt (m / 8) o) [
  | inl before ↦
      let zero_bit : bit_at (bits (m / 8)) (m % 8) ≡ 0 = rw (none (m / 8) before) (bit_at-zero (m % 8)) in
      omega (arith, zero_bit, is)
  | inr le ↦
      let here : m / 8 ≡ o = omega (arith, le, less, lt) in
      let low_bit : bit_at (bits (m / 8)) (m % 8) ≡ 0 = rw here (low (m % 8) (omega (arith, here, less))) in
      omega (arith, low_bit, is)
]

bit_first : (bits other : ℕ → ℕ) (size : ℕ) → ((at : ℕ) → bits at ≡ other at) → ((at : ℕ) → bits at < 256) → (o : Option Pair) → FirstByte bits size o
    → IsFirst kind.SharedBit (IsFreeBit other size) (by_bit o)
bit_first bits other size same bytes None none = λ m t is.
    let zero_byte : other (m / 8) ≡ 0 = sym (same (m / 8)) ∙ none (m / 8) (omega (arith, is.0)) in
    let zero_bit : bit_at (other (m / 8)) (m % 8) ≡ 0 = rw zero_byte (bit_at-zero (m % 8)) in
    omega (arith, zero_bit, is.1)
bit_first bits other size same bytes (Some e) f =
    let b = low_bit (bits e.0) f.1 (bytes e.0) in
    let k : ℕ = trailing_zeros w8 (bits e.0) in
    let n : ℕ = 8 * e.0 + k in
    let s = split_number n e.0 k b.0 refl in
    let q : other e.0 ≡ bits e.0 = sym (same e.0) in (
      refl,
      n,
      (omega (arith, b.0, f.0), rw (s.0, s.1, q) b.1, bit_test e.0 e.1 k n f.2 s.0 s.1),
      λ m t is lt. no_lower other e.0 k m b.0 (λ at below. sym (same at) ∙ f.3 at below) (λ i low. rw q (b.2 i low)) lt is.1,
    )

module _ (rules : Rules) (large small : Frame) (size : ℕ) where
  nothing_sooner : (k : ℕ) (b : Kind) (n : ℕ) → ((a : Kind) (m : ℕ) (t : Test) → rank a < rank b → IsNiche rules large small size k a m t → ⊥)
      → ((m : ℕ) (t : Test) → IsNiche rules large small size k b m t → m < n → ⊥)
      → (a : Kind) (m : ℕ) (t : Test) → IsNiche rules large small size k a m t → IsSooner a m b n → ⊥
  nothing_sooner k b n below same a m t is (inl lt) = below a m t lt is
  nothing_sooner k b n below same a m t is (inr s) = same m t (subst (λ (x : Kind). IsNiche rules large small size k x m t) s.0 is) s.1

  chosen : (k : ℕ) (b : Kind) (niche : Niche) → ((a : Kind) (m : ℕ) (t : Test) → rank a < rank b → IsNiche rules large small size k a m t → ⊥)
      → IsFirst b (IsNiche rules large small size k b) (Some niche) → IsFirstAt rules large small size k (Some niche)
  chosen k b niche below f =
      subst (λ (x : Kind). (n : ℕ) × IsNiche rules large small size k x n niche.test
      × ((a : Kind) (m : ℕ) (t : Test) → IsNiche rules large small size k a m t → IsSooner a m x n → ⊥))
      (sym f.0) (f.1, f.2, nothing_sooner k b f.1 below f.3)

  -- the kinds in their order
  place_first : (k : ℕ) (o1 o2 o3 : Option Niche) → IsFirst kind.SmallerPattern (IsNiche rules large small size k kind.SmallerPattern) o1
      → IsFirst kind.LargerPattern (IsNiche rules large small size k kind.LargerPattern) o2
      → IsFirst kind.SharedBit (IsNiche rules large small size k kind.SharedBit) o3
      → IsFirstAt rules large small size k (or_else o1 (or_else o2 o3))
  place_first k (Some niche) o2 o3 f1 f2 f3 = chosen k kind.SmallerPattern niche none f1
    where
      none : (a : Kind) (m : ℕ) (t : Test) → rank a < 1 → IsNiche rules large small size k a m t → ⊥
      none kind.SmallerPattern m t lt is = omega (arith, lt)
      none kind.LargerPattern m t lt is = omega (arith, lt)
      none kind.SharedBit m t lt is = omega (arith, lt)
      none kind.Tag m t lt is = omega (arith, lt)
  place_first k None (Some niche) o3 f1 f2 f3 = chosen k kind.LargerPattern niche none f2
    where
      none : (a : Kind) (m : ℕ) (t : Test) → rank a < 2 → IsNiche rules large small size k a m t → ⊥
      none kind.SmallerPattern m t lt is = f1 m t is
      none kind.LargerPattern m t lt is = omega (arith, lt)
      none kind.SharedBit m t lt is = omega (arith, lt)
      none kind.Tag m t lt is = omega (arith, lt)
  place_first k None None (Some niche) f1 f2 f3 = chosen k kind.SharedBit niche none f3
    where
      none : (a : Kind) (m : ℕ) (t : Test) → rank a < 3 → IsNiche rules large small size k a m t → ⊥
      none kind.SmallerPattern m t lt is = f1 m t is
      none kind.LargerPattern m t lt is = f2 m t is
      none kind.SharedBit m t lt is = omega (arith, lt)
      none kind.Tag m t lt is = omega (arith, lt)
  place_first k None None None f1 f2 f3 = none
    where
      none : (a : Kind) (m : ℕ) (t : Test) → IsNiche rules large small size k a m t → ⊥
      none kind.SmallerPattern m t is = f1 m t is
      none kind.LargerPattern m t is = f2 m t is
      none kind.SharedBit m t is = f3 m t is
      none kind.Tag m t is = is

  wrap_smaller : (k : ℕ) → small.size ≢ 0 → IsFirst kind.SmallerPattern (IsNiche rules large small size k kind.SmallerPattern) (by_pattern kind.SmallerPattern (smaller_pattern large small size (k * small.align)))
  wrap_smaller k some =
      let pss : List (List Pair) = map (moved_pairs (k * small.align)) (offered (forbids small)) in
      let free : ℕ → ℕ = union_byte large 0 size in
      first_of_same kind.SmallerPattern (IsFreePattern free pss) (IsNiche rules large small size k kind.SmallerPattern) (λ n t is. (some, is)) (λ n t is. is.1)
      (by_pattern kind.SmallerPattern (find (lies_free free) pss)) (pattern_first kind.SmallerPattern free pss (find (lies_free free) pss) (found (lies_free free) [] pss))

  wrap_larger : (k : ℕ) → small.size ≢ 0 → IsFirst kind.LargerPattern (IsNiche rules large small size k kind.LargerPattern) (by_pattern kind.LargerPattern (larger_pattern large small size (k * small.align)))
  wrap_larger k some =
      let pss : List (List Pair) = offered (forbids large) in
      let free : ℕ → ℕ = union_byte small (k * small.align) size in
      first_of_same kind.LargerPattern (IsFreePattern free pss) (IsNiche rules large small size k kind.LargerPattern) (λ n t is. inr (some, is)) back
      (by_pattern kind.LargerPattern (find (lies_free free) pss)) (pattern_first kind.LargerPattern free pss (find (lies_free free) pss) (found (lies_free free) [] pss))
    where
      back : (n : ℕ) (t : Test) → IsNiche rules large small size k kind.LargerPattern n t → IsFreePattern (union_byte small (k * small.align) size) (offered (forbids large)) n t
      back n t (inl is) = absurd (some is.0)
      back n t (inr is) = is.1

  wrap_leading : (k : ℕ) → small.size ≡ 0 → IsFirst kind.LargerPattern (IsNiche rules large small size k kind.LargerPattern) (by_pattern kind.LargerPattern (leading_pattern rules large))
  wrap_leading k none =
      let o : Option (List Pair) = leading_pattern rules large in
      first_of_same kind.LargerPattern (IsLeading o) (IsNiche rules large small size k kind.LargerPattern) (λ n t is. inl (none, is)) back (by_pattern kind.LargerPattern o) (leading_first o)
    where
      back : (n : ℕ) (t : Test) → IsNiche rules large small size k kind.LargerPattern n t → IsLeading (leading_pattern rules large) n t
      back n t (inl is) = is.1
      back n t (inr is) = absurd (is.0 none)

  pub wrap_bit : (k shift : ℕ) → IsMask large.free → ((at : ℕ) → spare_byte large small shift size at ≡ spare_byte large small (k * small.align) size at)
      → IsFirst kind.SharedBit (IsNiche rules large small size k kind.SharedBit) (by_bit (shared_bit large small size shift))
  wrap_bit k shift m same =
      let bits : ℕ → ℕ = spare_byte large small shift size in
      bit_first bits (spare_byte large small (k * small.align) size) size same (λ at. spare_small large small shift size at m) (least_bit (entries_below bits size)) (first_byte bits size)

  spare_of_empty : (shift other at : ℕ) → small.size ≡ 0 → spare_byte large small shift size at ≡ spare_byte large small other size at
  spare_of_empty shift other at none = let t : eqb small.size 0 ≡ true = eq-eqb small.size 0 none in rw (t) refl

  pub offer_first : (k : ℕ) → IsMask large.free → IsFirstAt rules large small size k (offer_at rules large small size k)
  unfolding offer_at
  offer_first k m = elim (cases_eq small.size 0) [
    | inl none ↦
        let t : eqb small.size 0 ≡ true = eq-eqb small.size 0 none in
        rw t (place_first k None (by_pattern kind.LargerPattern (leading_pattern rules large)) (by_bit (shared_bit large small size 0))
        (λ n t is. is.0 none) (wrap_leading k none) (wrap_bit k 0 m (λ at. spare_of_empty 0 (k * small.align) at none)))
    | inr some ↦
        let t : eqb small.size 0 ≡ false = ne_eqb small.size 0 some in
        rw t (place_first k (by_pattern kind.SmallerPattern (smaller_pattern large small size (k * small.align)))
        (by_pattern kind.LargerPattern (larger_pattern large small size (k * small.align))) (by_bit (shared_bit large small size (k * small.align)))
        (wrap_smaller k some) (wrap_larger k some) (wrap_bit k (k * small.align) m (λ at. refl)))
  ]

  none_more : (k : ℕ) → OffersNone rules large small size k → (is_place small size k ≡ true → IsFirstAt rules large small size k None) → OffersNone rules large small size (suc k)
  none_more k none here j lt place a m t is = elim (cases_lt j k) [
    | inl below ↦ none j below place a m t is
    | inr le ↦
        let same : j ≡ k = omega (arith, lt, le) in
        here (subst (λ (x : ℕ). is_place small size x ≡ true) same place) a m t (subst (λ (x : ℕ). IsNiche rules large small size x a m t) same is)
  ]

  search_more : (k : ℕ) (o : Option (ℕ × Niche)) (b : Bool) (q : Option Niche) → is_place small size k ≡ b → IsFirstBelow rules large small size k o
      → IsFirstAt rules large small size k q → IsFirstBelow rules large small size (suc k) (or_else o (cond b (numbered k q) None))
  search_more k (Some found) b q place f first = (omega (arith, f.0), f.1, f.2, f.3)
  search_more k None false q place none first = none_more k none (λ is. absurd (both_ways (is_place small size k) place is))
  search_more k None true None place none first = none_more k none (λ is. first)
  search_more k None true (Some niche) place none first = (omega arith, place, first, none)

  pub search_first : (places : ℕ) → IsMask large.free → IsFirstBelow rules large small size places (first_offer rules large small size places)
  unfolding first_offer
  search_first zero m = λ k lt. absurd (omega (arith, lt))
  search_first (suc k) m =
      search_more k (first_offer rules large small size k) (is_place small size k) (offer_at rules large small size k) refl (search_first k m) (offer_first k m)
