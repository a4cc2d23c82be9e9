-- The written placement in words, and the frame that it leaves.
use Rattle.std.proofs.Common.{◌≡◌, ℕ, ◌+◌, ◌*◌, ◌<◌, Bool, true, false, Option, Some, None, cond, eqb, ltb, leb, refl, sym, subst, inl, inr, arith}
use Rattle.std.proofs.lemmas.Nat.{xor_of_8, pow_below}
use Rattle.std.proofs.Math.Nat.{add-zero}
use Rattle.std.proofs.lemmas.Bool.{and_parts, ltb-true, eqb-true, ne_eqb, eq-eqb, cases_eq, cases_Bool}
use Rattle.abi_bits.specs.Mask.{IsMask}
use Rattle.abi_bits.proofs.Entries.{entries_are_mask}
use Rattle.abi_det.specs.Frame.{Frame}
use Rattle.abi_det.specs.Roles.{spare_byte, union_size, larger, smaller, ok_is_larger, sum_align}
use Rattle.abi_det.specs.Offers.{Rules, Niche, first_offer}
use Rattle.abi_det.specs.Written.{without, beside_tag, placement_of, written_placement, written_sum}
use Rattle.abi_det.specs.Niches.{IsNiche, IsFirstBelow, taken, OffersNone}
use Rattle.abi_det.specs.SoundPlacement.{IsTest, IsSoundPlacement}
use Rattle.abi_det.specs.Laws.{PlaceLaw, PlacementLaw, WellFormedSumLaw, SizeLaw}
use Rattle.abi_det.specs.declared.placements.Kind.{Kind}
use Rattle.abi_det.specs.declared.placements.Kind.TheVariants as kind
use Rattle.abi_det.specs.declared.determinant.Test.{Test}
use Rattle.abi_det.specs.declared.determinant.Test.TheVariants as test
use Rattle.abi_det.proofs.Niches.{search_first, spare_small}
use Rattle.abi_det.proofs.SoundPlacements.{pick, placements_sound}
use Rattle.abi_det.proofs.Sizes.{sum_alignment, alignment_parts, union_small}
use Rattle.abi_det.proofs.Sums.{lawful_sum}

pub place_below : PlaceLaw
place_below small size k place = elim (cases_eq small.size 0) [
  | inl none ↦
      let t : eqb small.size 0 ≡ true = eq-eqb small.size 0 none in
      omega (arith, eqb-true k 0 (rw t at place))
  | inr some ↦
      let t : eqb small.size 0 ≡ false = ne_eqb small.size 0 some in
      ltb-true k 8 (and_parts (ltb k 8) (leb (k * small.align + small.size) size) (rw t at place)).0
]

taken_niche : (rules : Rules) (ok err : Frame) (k n : ℕ) (a : Kind) (t : Test) → IsNiche rules (larger ok err) (smaller ok err) (union_size ok err) k a n t
    → taken (placement_of ok err (Some (k, record { kind = a; test = t }))) ≡ Some (k, record { kind = a; test = t })
taken_niche rules ok err k n kind.SmallerPattern t is = refl
taken_niche rules ok err k n kind.LargerPattern t is = refl
taken_niche rules ok err k n kind.SharedBit t is = refl
taken_niche rules ok err k n kind.Tag t is = absurd is

-- what a placement takes is what the search found
pub taken_found : (rules : Rules) (ok err : Frame) (o : Option (ℕ × Niche)) → IsFirstBelow rules (larger ok err) (smaller ok err) (union_size ok err) 8 o → taken (placement_of ok err o) ≡ o
taken_found rules ok err None f = refl
taken_found rules ok err (Some found) f = taken_niche rules ok err found.0 f.2.0 found.1.kind found.1.test f.2.1

pub search_of : (rules : Rules) (ok err : Frame) → IsMask ok.free → IsMask err.free
    → IsFirstBelow rules (larger ok err) (smaller ok err) (union_size ok err) 8 (first_offer rules (larger ok err) (smaller ok err) (union_size ok err) 8)
search_of rules ok err mo me =
    search_first rules (larger ok err) (smaller ok err) (union_size ok err) 8 (pick (λ f. IsMask f.free) (ok_is_larger ok err) ok err mo me)

pub placement_first : PlacementLaw
unfolding written_placement
placement_first rules ok err mo me =
    let f = search_of rules ok err mo me in
    subst (λ (o : Option (ℕ × Niche)). IsFirstBelow rules (larger ok err) (smaller ok err) (union_size ok err) 8 o)
    (sym (taken_found rules ok err (first_offer rules (larger ok err) (smaller ok err) (union_size ok err) 8) f)) f

pub sum_size : SizeLaw
unfolding written_sum written_placement
sum_size rules ok err mo me =
    by_search (first_offer rules (larger ok err) (smaller ok err) (union_size ok err) 8) (search_of rules ok err mo me)
  where
    by_search : (o : Option (ℕ × Niche)) → IsFirstBelow rules (larger ok err) (smaller ok err) (union_size ok err) 8 o
        → (OffersNone rules (larger ok err) (smaller ok err) (union_size ok err) 8 → union_size ok err + (placement_of ok err o).front ≡ union_size ok err + sum_align ok err)
        × ((OffersNone rules (larger ok err) (smaller ok err) (union_size ok err) 8 → ⊥) → union_size ok err + (placement_of ok err o).front ≡ union_size ok err)
    by_search None none = (λ is. refl, λ some. absurd (some none))
    by_search (Some found) f = (λ none. absurd (none found.0 f.0 f.1 found.1.kind f.2.0 found.1.test f.2.1), λ some. add-zero (union_size ok err))

left_byte : (t : Test) (bits : ℕ → ℕ) (size at : ℕ) → IsTest t size → ((at : ℕ) → bits at < 256) → without t bits at < 256
left_byte test.BitDeterminant bits size at is bytes = bytes at
left_byte (test.ValueIsErr ps) bits size at is bytes = bytes at
left_byte (test.BitIsErr o m) bits size at is bytes = elim (cases_Bool (eqb at o)) [
  | inl here ↦ rw here (xor_of_8 (bits at) m (bytes at) (omega (arith, is.1.2, pow_below is.1.0 8 is.1.1)))
  | inr there ↦ rw there (bytes at)
]

beside_byte : (at : ℕ) → beside_tag at < 256
beside_byte at = by_test (eqb at 0)
  where
    by_test : (b : Bool) → cond b 254 255 < 256
    by_test true = omega arith
    by_test false = omega arith

pub sound_sum : WellFormedSumLaw
unfolding written_sum written_placement
sound_sum rules ok err so se small = record {
  lawful = lawful_sum rules ok err so.lawful se.lawful small;
  mask = exported_mask (first_offer rules (larger ok err) (smaller ok err) (union_size ok err) 8) (placements_sound rules ok err so se);
  patterns = refl;
  bytes = refl;
}
  where
    exported_mask : (o : Option (ℕ × Niche)) → IsSoundPlacement ok err (placement_of ok err o) → IsMask (placement_of ok err o).exported
    exported_mask None is =
        let al = alignment_parts (sum_align ok err) (sum_alignment ok err so.lawful se.lawful) in
        entries_are_mask beside_tag (sum_align ok err) (omega (arith, al.0)) beside_byte
    exported_mask (Some found) is =
        let bits : ℕ → ℕ = spare_byte (larger ok err) (smaller ok err) (found.0 * (smaller ok err).align) (union_size ok err) in
        entries_are_mask (without found.1.test bits) (union_size ok err) (union_small ok err so.lawful se.lawful)
        (λ at. left_byte found.1.test bits (union_size ok err + 0) at is.tested
        (λ at. spare_small (larger ok err) (smaller ok err) (found.0 * (smaller ok err).align) (union_size ok err) at (pick (λ f. IsMask f.free) (ok_is_larger ok err) ok err so.mask se.mask)))
