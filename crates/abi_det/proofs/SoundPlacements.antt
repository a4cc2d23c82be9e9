-- Every placement is sound.
use Rattle.std.proofs.Common.{◌≡◌, ℕ, zero, suc, ◌+◌, ◌-◌, ◌*◌, ◌/◌, ◌%◌, ◌^◌, ◌<◌, ◌≤◌, min, Bool, true, false, not, List, [], ◌∷◌, Option, Some, None, map, length, get_or, cond, eqb, ltb, leb, bit_xor, refl, sym, ap, ◌∙◌, subst, inl, inr, arith}
use Rattle.std.specs.List.{list_any}
use Rattle.std.specs.Int.{bit_at}
use Rattle.std.proofs.Math.Nat.{add-zero, zero-add, sub-zero, zero-mul}
use Rattle.std.proofs.lemmas.List.{length-map}
use Rattle.std.proofs.lemmas.Nat.Bits.{bit_at-zero, bit_at_and, bit_at_xor, bit_at_ones, bit_at-pow_same, bit_at-pow_other, bit_at-lt}
use Rattle.std.proofs.lemmas.Bool.{and_parts, ltb-true, leb-true, eqb-true, ne_eqb, eq-eqb, lt-ltb, le-ltb, cases_lt, cases_eq, both_ways}
use Rattle.abi_bits.specs.Pairs.{Pair, moved_pairs}
use Rattle.abi_bits.specs.Mask.{mask_at, IsMask, entries_below}
use Rattle.abi_bits.specs.Forbidden.{offered}
use Rattle.abi_det.specs.Frame.{Frame, forbids}
use Rattle.abi_det.specs.Roles.{union_byte, lies_free, spare_byte, is_place, union_size, larger, smaller, ok_is_larger, sum_align}
use Rattle.abi_det.specs.State.{is_tested}
use Rattle.abi_det.specs.Written.{without, beside_tag, means_ok, placement_of, tagged, niched, written_placement}
use Rattle.abi_det.specs.Offers.{Rules, Niche, first_of, leading_pattern, first_offer}
use Rattle.abi_det.specs.Niches.{IsLeading, IsNiche, IsFirstBelow}
use Rattle.abi_det.specs.SoundPlacement.{IsWellFormed, is_free_at, IsTest, IsSide, IsSoundPlacement}
use Rattle.abi_det.specs.Laws.{SoundPlacementLaw}
use Rattle.abi_det.specs.declared.rules.Rules.TheVariants as version
use Rattle.abi_det.specs.declared.placements.Placement.{Placement}
use Rattle.abi_det.specs.declared.placements.Kind.{Kind}
use Rattle.abi_det.specs.declared.placements.Kind.TheVariants as kind
use Rattle.abi_det.specs.declared.determinant.Test.{Test}
use Rattle.abi_det.specs.declared.determinant.Test.TheVariants as test
use Rattle.abi_bits.proofs.Entries.{entries_at}
use Rattle.abi_det.proofs.Niches.{search_first}
use Rattle.abi_det.proofs.Moving.{moved_by_none}
use Rattle.abi_det.proofs.Heads.{head_leads}
use Rattle.abi_det.proofs.Patterns.{free_named, moved, pattern_not_free, pattern_forbidden, pattern_in}
use Rattle.abi_det.proofs.Sizes.{sum_alignment, alignment_positive, union_rounded, union_small}

-- a bit of the union frame is free for the variant
free_bit : (a b c : Bool) (x k : ℕ) → bit_at (cond a (cond b 255 (cond c x 255)) 0) k ≡ 1 → cond b true (cond c (eqb (bit_at x k) 1) true) ≡ true
free_bit false b c x k is = absurd (omega (arith, is, bit_at-zero k))
free_bit true true c x k is = refl
free_bit true false true x k is = eq-eqb (bit_at x k) 1 is
free_bit true false false x k is = refl

pub free_of_union : (f : Frame) (shift size at k : ℕ) → bit_at (union_byte f shift size at) k ≡ 1 → is_free_at f shift at k ≡ true
free_of_union f shift size at k is = free_bit (ltb at size) (ltb at shift) (ltb at (shift + f.size)) (mask_at f.free (at - shift)) k is

pub free_of_whole : (f : Frame) (shift size at k : ℕ) → k < 8 → union_byte f shift size at ≡ 255 → is_free_at f shift at k ≡ true
free_of_whole f shift size at k lt q = free_of_union f shift size at k (rw q (bit_at_ones 8 k lt))

-- all bits are free for an empty variant
pub free_of_empty : (f : Frame) (shift at k : ℕ) → f.size ≡ 0 → is_free_at f shift at k ≡ true
free_of_empty f shift at k none = elim (cases_lt at shift) [
  | inl lt ↦ let t : ltb at shift ≡ true = lt-ltb at shift lt in rw t refl
  | inr le ↦
      let t : ltb at shift ≡ false = le-ltb at shift le in
      let u : ltb at (shift + f.size) ≡ false = le-ltb at (shift + f.size) (omega (arith, le, none)) in
      rw (t, u) refl
]

-- its own free bits are free for a variant that stands at the first byte
free_of_own : (f : Frame) (at k : ℕ) → bit_at (mask_at f.free at) k ≡ 1 → is_free_at f 0 at k ≡ true
free_of_own f at k is =
    let t : ltb at 0 ≡ false = le-ltb at 0 (omega arith) in
    rw (t, sub-zero at) (own (ltb at (0 + f.size)) (bit_at (mask_at f.free at) k) is)
  where
    own : (b : Bool) (x : ℕ) → x ≡ 1 → cond b (eqb x 1) true ≡ true
    own true x q = eq-eqb x 1 q
    own false x q = refl

pub free_of_spare : (large small : Frame) (shift size at k : ℕ) → bit_at (spare_byte large small shift size at) k ≡ 1
    → (is_free_at large 0 at k ≡ true) × (is_free_at small shift at k ≡ true)
free_of_spare large small shift size at k is = elim (cases_eq small.size 0) [
  | inl none ↦
      let t : eqb small.size 0 ≡ true = eq-eqb small.size 0 none in
      (free_of_own large at k (rw t at is), free_of_empty small shift at k none)
  | inr some ↦
      let t : eqb small.size 0 ≡ false = ne_eqb small.size 0 some in
      let x : ℕ = bit_at (union_byte large 0 size at) k in
      let y : ℕ = bit_at (union_byte small shift size at) k in
      let both : min x y ≡ 1 = sym (bit_at_and (union_byte large 0 size at) (union_byte small shift size at) k) ∙ (rw t at is) in
      let xs = bit_at-lt (union_byte large 0 size at) k in
      let ys = bit_at-lt (union_byte small shift size at) k in
      (free_of_union large 0 size at k (omega (arith, both, xs)), free_of_union small shift size at k (omega (arith, both, ys)))
]

pub exported_bit : (bits : ℕ → ℕ) (n at k : ℕ) → bit_at (mask_at (entries_below bits n) at) k ≡ 1 → (at < n) × (bit_at (bits at) k ≡ 1)
exported_bit bits n at k is = here (ltb at n) refl (rw (entries_at bits n at) at is)
  where
    here : (b : Bool) → ltb at n ≡ b → bit_at (cond b (bits at) 0) k ≡ 1 → (at < n) × (bit_at (bits at) k ≡ 1)
    here true t h = (ltb-true at n t, h)
    here false t h = absurd (omega (arith, h, bit_at-zero k))

-- without the test's bit: what is left are bits, and none of them is tested
without_bit : (bits : ℕ → ℕ) (o m b at k : ℕ) → m ≡ 2 ^ b → bit_at (bits o) b ≡ 1 → bit_at (without (test.BitIsErr o m) bits at) k ≡ 1
    → (bit_at (bits at) k ≡ 1) × (is_tested (test.BitIsErr o m) at k ≡ false)
without_bit bits o m b at k q set is = elim (cases_eq at o) [
  | inl here ↦
      let t : eqb at o ≡ true = eq-eqb at o here in
      let x : bit_at (bit_xor (bits at) m) k ≡ 1 = rw t at is in
      let y : (bit_at (bits at) k + bit_at m k) % 2 ≡ 1 = sym (bit_at_xor (bits at) m k) ∙ x in
      elim (cases_eq k b) [
        | inl same ↦
            let one : bit_at m k ≡ 1 = rw (q, same) (bit_at-pow_same b) in
            let also : bit_at (bits at) k ≡ 1 = rw (here, same) set in
            absurd (let z : (1 + 1) % 2 ≡ 1 = rw (one, also) at y in cc)
        | inr other ↦
            let none : bit_at m k ≡ 0 = rw q (bit_at-pow_other b k other) in
            let f : eqb (bit_at m k) 1 ≡ false = ne_eqb (bit_at m k) 1 (λ e. absurd (omega (arith, e, none))) in
            (omega (arith, y, none, bit_at-lt (bits at) k), rw (t, f) refl)
      ]
  | inr there ↦
      let t : eqb at o ≡ false = ne_eqb at o there in
      (rw t at is, rw t refl)
]

-- the variant that offers the pattern never has it, and the pattern is absent where that variant stands
pattern_owner : (f : Frame) (sound : IsWellFormed f) (shift n : ℕ) (there : n < length (offered (forbids f))) (exported : List Pair) (size : ℕ) → shift + f.size ≤ size
    → ((at k : ℕ) → k < 8 → bit_at (mask_at exported at) k ≡ 1 → is_free_at f shift at k ≡ true)
    → IsSide (test.ValueIsErr (moved f sound shift n there)) exported size f shift false
pattern_owner f sound shift n there exported size inside exports = record {
  inside = inside;
  imposed = λ is at k lt tested. absurd (cc);
  forbids = λ is image holds. pattern_forbidden f sound shift n there image holds;
  exports = exports;
}

-- the other variant leaves its bytes free
pattern_host : (g : Frame) (shift : ℕ) (ps : List Pair) (exported : List Pair) (size : ℕ) → shift + g.size ≤ size
    → ((at k : ℕ) → k < 8 → list_any (λ p. eqb p.0 at) ps ≡ true → is_free_at g shift at k ≡ true)
    → ((at k : ℕ) → k < 8 → bit_at (mask_at exported at) k ≡ 1 → is_free_at g shift at k ≡ true)
    → IsSide (test.ValueIsErr ps) exported size g shift true
pattern_host g shift ps exported size inside free exports = record {
  inside = inside;
  imposed = λ is at k lt tested. free at k lt tested;
  forbids = λ is image holds. absurd (cc);
  exports = exports;
}

one_bit_side : (g : Frame) (shift o b : ℕ) (exported : List Pair) (size : ℕ) → shift + g.size ≤ size → is_free_at g shift o b ≡ true
    → ((at k : ℕ) → k < 8 → bit_at (mask_at exported at) k ≡ 1 → is_free_at g shift at k ≡ true)
    → (sign : Bool) → IsSide (test.BitIsErr o (2 ^ b)) exported size g shift sign
one_bit_side g shift o b exported size inside free exports sign = record {
  inside = inside;
  imposed = λ is at k lt tested. the_bit at k (eqb at o) refl tested;
  forbids = λ is image holds. absurd (cc);
  exports = exports;
}
  where
    the_bit : (at k : ℕ) (t : Bool) → eqb at o ≡ t → cond t (eqb (bit_at (2 ^ b) k) 1) false ≡ true → is_free_at g shift at k ≡ true
    the_bit at k false e tested = absurd (cc)
    the_bit at k true e tested = elim (cases_eq k b) [
      | inl same ↦ rw (eqb-true at o e, same) free
      | inr other ↦ absurd (omega (arith, eqb-true (bit_at (2 ^ b) k) 1 tested, bit_at-pow_other b k other))
    ]

get_or-moved : (shift : ℕ) (pss : List (List Pair)) (n : ℕ) → get_or (map (moved_pairs shift) pss) n [] ≡ moved_pairs shift (get_or pss n [])
get_or-moved shift [] n = refl
get_or-moved shift (ps ∷ pss) zero = refl
get_or-moved shift (ps ∷ pss) (suc n) = get_or-moved shift pss n

leading_offered : (rules : Rules) (large : Frame) (ps : List Pair) → leading_pattern rules large ≡ Some ps
    → (0 < length (offered (forbids large))) × (ps ≡ get_or (offered (forbids large)) 0 [])
leading_offered rules large ps is = first_there (offered (forbids large)) (leads rules is)
  where
    leads : (rules : Rules) → leading_pattern rules large ≡ Some ps → first_of (offered (forbids large)) ≡ Some ps
    leads version.One is = head_leads large.forbidden ps is
    leads version.Two is = is

    first_there : (pss : List (List Pair)) → first_of pss ≡ Some ps → (0 < length pss) × (ps ≡ get_or pss 0 [])
    first_there [] is = absurd (cc)
    first_there (x ∷ xs) is = (omega arith, cc)

not_both : (a b : Bool) → b ≡ true → (a ≡ true → b ≡ false) → a ≡ false
not_both true b t none = absurd (both_ways b (none refl) t)
not_both false b t none = refl

-- the niche of kind 1 means the larger variant, each other niche the smaller
abbrev pub means_larger : Kind → Bool
means_larger kind.SmallerPattern = true
means_larger kind.LargerPattern = false
means_larger kind.SharedBit = false
means_larger kind.Tag = false

-- the bits that a niche leaves to be exported
abbrev pub left_over : Frame → Frame → ℕ → ℕ → Test → List Pair
left_over large small size shift t = entries_below (without t (spare_byte large small shift size)) size

-- a niche is sound for either variant: one whose presence means the larger variant, or the smaller
abbrev pub IsSoundNiche : Frame → Frame → ℕ → ℕ → Test → Bool → Type 0
IsSoundNiche large small size shift t sign =
    IsSide t (left_over large small size shift t) size large 0 sign
    × IsSide t (left_over large small size shift t) size small shift (not sign)
    × IsTest t size
    × ((at k : ℕ) → k < 8 → bit_at (mask_at (left_over large small size shift t) at) k ≡ 1 → is_tested t at k ≡ false)

module _ (large small : Frame) (size shift : ℕ) (sl : IsWellFormed large) (ss : IsWellFormed small) (inside_l : large.size ≤ size) (inside_s : shift + small.size ≤ size) (fits : size ≤ 1048576) where
  both_free : (bits : ℕ → ℕ) → ((at k : ℕ) → bit_at (bits at) k ≡ 1 → bit_at (spare_byte large small shift size at) k ≡ 1)
      → (at k : ℕ) → bit_at (mask_at (entries_below bits size) at) k ≡ 1 → (is_free_at large 0 at k ≡ true) × (is_free_at small shift at k ≡ true)
  both_free bits less at k is = free_of_spare large small shift size at k (less at k (exported_bit bits size at k is).1)

  inside_zero : 0 + large.size ≤ size
  inside_zero = omega (arith, inside_l)

  smaller_sound : (n : ℕ) (there : n < length (offered (forbids small))) → lies_free (union_byte large 0 size) (moved small ss shift n there) ≡ true
      → IsSoundNiche large small size shift (test.ValueIsErr (moved small ss shift n there)) true
  smaller_sound n there lies =
      let ps : List Pair = moved small ss shift n there in
      let bits : ℕ → ℕ = spare_byte large small shift size in
      let free = both_free bits (λ at k is. is) in (
        pattern_host large 0 ps (entries_below bits size) size inside_zero
            (λ at k lt named. free_of_whole large 0 size at k lt (free_named (union_byte large 0 size) at ps lies named)) (λ at k lt is. (free at k is).0),
        pattern_owner small ss shift n there (entries_below bits size) size inside_s (λ at k lt is. (free at k is).1),
        pattern_in small ss shift n there size inside_s fits,
        λ at k lt is. not_both (list_any (λ p. eqb p.0 at) ps) (is_free_at small shift at k) (free at k is).1 (pattern_not_free small ss shift n there at k),
      )

  larger_sound : (n : ℕ) (there : n < length (offered (forbids large)))
      → ((at k : ℕ) → k < 8 → list_any (λ p. eqb p.0 at) (moved large sl 0 n there) ≡ true → is_free_at small shift at k ≡ true)
      → IsSoundNiche large small size shift (test.ValueIsErr (moved large sl 0 n there)) false
  larger_sound n there imposed =
      let ps : List Pair = moved large sl 0 n there in
      let bits : ℕ → ℕ = spare_byte large small shift size in
      let free = both_free bits (λ at k is. is) in (
        pattern_owner large sl 0 n there (entries_below bits size) size inside_zero (λ at k lt is. (free at k is).0),
        pattern_host small shift ps (entries_below bits size) size inside_s imposed (λ at k lt is. (free at k is).1),
        pattern_in large sl 0 n there size inside_zero fits,
        λ at k lt is. not_both (list_any (λ p. eqb p.0 at) ps) (is_free_at large 0 at k) (free at k is).0 (pattern_not_free large sl 0 n there at k),
      )

  bit_sound : (o b : ℕ) → o < size → b < 8 → bit_at (spare_byte large small shift size o) b ≡ 1 → IsSoundNiche large small size shift (test.BitIsErr o (2 ^ b)) false
  bit_sound o b low lt set =
      let bits : ℕ → ℕ = spare_byte large small shift size in
      let left : ℕ → ℕ = without (test.BitIsErr o (2 ^ b)) bits in
      let here = free_of_spare large small shift size o b set in
      let kept = λ (at k : ℕ) (is : bit_at (left at) k ≡ 1). without_bit bits o (2 ^ b) b at k refl set is in
      let free = both_free left (λ at k is. (kept at k is).0) in (
        one_bit_side large 0 o b (entries_below left size) size inside_zero here.0 (λ at k lt is. (free at k is).0) false,
        one_bit_side small shift o b (entries_below left size) size inside_s here.1 (λ at k lt is. (free at k is).1) true,
        (low, (b, lt, refl)),
        λ at k lt is. (kept at k (exported_bit left size at k is).1).1,
      )

niche_sound : (rules : Rules) (large small : Frame) (size k : ℕ) → IsWellFormed large → IsWellFormed small → large.size ≤ size → k * small.align + small.size ≤ size → size ≤ 1048576
    → (a : Kind) (n : ℕ) (t : Test) → IsNiche rules large small size k a n t → IsSoundNiche large small size (k * small.align) t (means_larger a)
niche_sound rules large small size k sl ss inside_l inside_s fits kind.SmallerPattern n t is =
    let shift : ℕ = k * small.align in
    let pss : List (List Pair) = offered (forbids small) in
    let e = get_or-moved shift pss n in
    let there : n < length pss = omega (arith, is.1.0, length-map pss (moved_pairs shift)) in
    subst (λ (x : Test). IsSoundNiche large small size shift x true) (sym (is.1.2 ∙ ap test.ValueIsErr e))
    (smaller_sound large small size shift sl ss inside_l inside_s fits n there (subst (λ (x : List Pair). lies_free (union_byte large 0 size) x ≡ true) e is.1.1))
niche_sound rules large small size k sl ss inside_l inside_s fits kind.LargerPattern n t (inl is) =
    leading (leading_pattern rules large) refl is.1
  where
    leading : (o : Option (List Pair)) → leading_pattern rules large ≡ o → IsLeading o n t → IsSoundNiche large small size (k * small.align) t false
    leading None e lead = absurd lead
    leading (Some ps) e lead =
        let first = leading_offered rules large ps e in
        let q : moved large sl 0 0 first.0 ≡ ps = moved_by_none (get_or (offered (forbids large)) 0 []) ∙ sym first.1 in
        subst (λ (x : Test). IsSoundNiche large small size (k * small.align) x false) (ap test.ValueIsErr q ∙ sym lead.1)
        (larger_sound large small size (k * small.align) sl ss inside_l inside_s fits 0 first.0 (λ at i lt named. free_of_empty small (k * small.align) at i is.0))
niche_sound rules large small size k sl ss inside_l inside_s fits kind.LargerPattern n t (inr is) =
    let shift : ℕ = k * small.align in
    let ps : List Pair = get_or (offered (forbids large)) n [] in
    let q : moved large sl 0 n is.1.0 ≡ ps = moved_by_none ps in
    subst (λ (x : Test). IsSoundNiche large small size shift x false) (ap test.ValueIsErr q ∙ sym is.1.2)
    (larger_sound large small size shift sl ss inside_l inside_s fits n is.1.0
    (λ at i lt named. free_of_whole small shift size at i lt
    (free_named (union_byte small shift size) at ps is.1.1 (subst (λ (x : List Pair). list_any (λ p. eqb p.0 at) x ≡ true) q named))))
niche_sound rules large small size k sl ss inside_l inside_s fits kind.SharedBit n t is =
    let shift : ℕ = k * small.align in
    subst (λ (x : Test). IsSoundNiche large small size shift x false) (sym is.2)
    (bit_sound large small size shift sl ss inside_l inside_s fits (n / 8) (n % 8) (omega (arith, is.0)) (omega arith) is.1)
niche_sound rules large small size k sl ss inside_l inside_s fits kind.Tag n t is = absurd is

-- one of two, by a test
pub pick : (P : Frame → Type 0) (b : Bool) (ok err : Frame) → P ok → P err → P (cond b ok err)
pick P true ok err x y = x
pick P false ok err x y = y

pub place_inside : (small : Frame) (size k : ℕ) → is_place small size k ≡ true → k * small.align + small.size ≤ size
place_inside small size k place = elim (cases_eq small.size 0) [
  | inl none ↦
      let t : eqb small.size 0 ≡ true = eq-eqb small.size 0 none in
      let first : k ≡ 0 = eqb-true k 0 (rw t at place) in
      rw (first, none, zero-mul small.align) (omega arith)
  | inr some ↦
      let t : eqb small.size 0 ≡ false = ne_eqb small.size 0 some in
      leb-true (k * small.align + small.size) size (and_parts (ltb k 8) (leb (k * small.align + small.size) size) (rw t at place)).1
]

-- what holds of the larger and of the smaller variant holds of Ok and of Err
by_role : (b : Bool) (ok err : Frame) (a : Kind) (shift : ℕ) (P : Frame → ℕ → Bool → Type 0) → P (cond b ok err) 0 (means_larger a) → P (cond b err ok) shift (not (means_larger a))
    → P ok (0 + cond b 0 shift) (means_ok a b) × P err (0 + cond b shift 0) (not (means_ok a b))
by_role true ok err kind.SmallerPattern shift P l s = (l, rw (zero-add shift) s)
by_role true ok err kind.LargerPattern shift P l s = (l, rw (zero-add shift) s)
by_role true ok err kind.SharedBit shift P l s = (l, rw (zero-add shift) s)
by_role true ok err kind.Tag shift P l s = (l, rw (zero-add shift) s)
by_role false ok err kind.SmallerPattern shift P l s = (rw (zero-add shift) s, l)
by_role false ok err kind.LargerPattern shift P l s = (rw (zero-add shift) s, l)
by_role false ok err kind.SharedBit shift P l s = (rw (zero-add shift) s, l)
by_role false ok err kind.Tag shift P l s = (rw (zero-add shift) s, l)

tag_side : (side : Frame) (u a : ℕ) (sign : Bool) → side.size ≤ u → 0 < a → IsSide test.BitDeterminant (entries_below beside_tag a) (u + a) side (a + 0) sign
tag_side side u a sign fits pos = record {
  inside = omega (arith, fits);
  imposed = λ is at k lt tested. tagged_bit at k (eqb at 0) refl tested;
  forbids = λ is image holds. absurd (cc);
  exports = λ at k lt is. in_front at k (exported_bit beside_tag a at k is).0;
}
  where
    in_front : (at k : ℕ) → at < a → is_free_at side (a + 0) at k ≡ true
    in_front at k lt = let t : ltb at (a + 0) ≡ true = lt-ltb at (a + 0) (omega (arith, lt)) in rw t refl

    tagged_bit : (at k : ℕ) (t : Bool) → eqb at 0 ≡ t → cond t (eqb k 0) false ≡ true → is_free_at side (a + 0) at k ≡ true
    tagged_bit at k false e tested = absurd (cc)
    tagged_bit at k true e tested = in_front at k (omega (arith, pos, eqb-true at 0 e))

tag_kept : (at k : ℕ) → bit_at (beside_tag at) k ≡ 1 → is_tested test.BitDeterminant at k ≡ false
tag_kept at k is = by_byte (eqb at 0) is
  where
    by_byte : (t : Bool) → bit_at (cond t 254 255) k ≡ 1 → cond t (eqb k 0) false ≡ false
    by_byte false h = refl
    by_byte true h = ne_eqb k 0 (λ q. let low : bit_at 254 0 ≡ 1 = rw q at h in cc)

tag_sound : (ok err : Frame) → IsWellFormed ok → IsWellFormed err → IsSoundPlacement ok err (tagged ok err)
tag_sound ok err so se =
    let u : ℕ = union_size ok err in
    let a : ℕ = sum_align ok err in
    let r = union_rounded ok err so.lawful se.lawful in
    let pos = alignment_positive a (sum_alignment ok err so.lawful se.lawful) in
    record {
      ok_side = tag_side ok u a (means_ok kind.Tag (ok_is_larger ok err)) r.0 pos;
      err_side = tag_side err u a (not (means_ok kind.Tag (ok_is_larger ok err))) r.1 pos;
      tested = omega (arith, pos);
      kept = λ at k lt is. tag_kept at k (exported_bit beside_tag a at k is).1;
    }

niche_sound_both : (rules : Rules) (ok err : Frame) → IsWellFormed ok → IsWellFormed err → (k n : ℕ) (niche : Niche) → is_place (smaller ok err) (union_size ok err) k ≡ true
    → IsNiche rules (larger ok err) (smaller ok err) (union_size ok err) k niche.kind n niche.test → IsSoundPlacement ok err (niched ok err k niche)
niche_sound_both rules ok err so se k n niche place is =
    let u : ℕ = union_size ok err in
    let b : Bool = ok_is_larger ok err in
    let shift : ℕ = k * (smaller ok err).align in
    let t : Test = niche.test in
    let r = union_rounded ok err so.lawful se.lawful in
    let o = niche_sound rules (larger ok err) (smaller ok err) u k (pick IsWellFormed b ok err so se) (pick IsWellFormed b err ok se so)
    (pick (λ f. f.size ≤ u) b ok err r.0 r.1) (place_inside (smaller ok err) u k place) (union_small ok err so.lawful se.lawful) niche.kind n t is in
    let ex : List Pair = left_over (larger ok err) (smaller ok err) u shift t in
    let sides = by_role b ok err niche.kind shift (λ f s sign. IsSide t ex u f s sign) o.0 o.1 in
    let same : u + 0 ≡ u = add-zero u in
    record {
      ok_side = subst (λ (x : ℕ). IsSide t ex x ok (0 + cond b 0 shift) (means_ok niche.kind b)) (sym same) sides.0;
      err_side = subst (λ (x : ℕ). IsSide t ex x err (0 + cond b shift 0) (not (means_ok niche.kind b))) (sym same) sides.1;
      tested = subst (λ (x : ℕ). IsTest t x) (sym same) o.2;
      kept = o.3;
    }

pub placements_sound : SoundPlacementLaw
unfolding written_placement
placements_sound rules ok err so se =
    by_search (first_offer rules (larger ok err) (smaller ok err) (union_size ok err) 8)
    (search_first rules (larger ok err) (smaller ok err) (union_size ok err) 8 (pick (λ f. IsMask f.free) (ok_is_larger ok err) ok err so.mask se.mask))
  where
    by_search : (o : Option (ℕ × Niche)) → IsFirstBelow rules (larger ok err) (smaller ok err) (union_size ok err) 8 o → IsSoundPlacement ok err (placement_of ok err o)
    by_search None none = tag_sound ok err so se
    by_search (Some found) f = niche_sound_both rules ok err so se found.0 f.2.0 found.1 f.1 f.2.1

pub placement_sound : (rules : Rules) (ok err : Frame) (p : Placement) → IsWellFormed ok → IsWellFormed err → p ≡ written_placement rules ok err → IsSoundPlacement ok err p
placement_sound rules ok err p so se is = subst (λ x. IsSoundPlacement ok err x) (sym is) (placements_sound rules ok err so se)
