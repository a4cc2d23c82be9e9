-- From what a search finds to the placement.
use Rattle.std.proofs.Common.{◌≡◌, ℕ, ◌*◌, ◌/◌, ◌%◌, ◌<◌, Bool, true, false, not, cond, List, [], Option, Some, None, refl, ap, inl, inr, arith}
use Rattle.std.proofs.lemmas.Bool.{false≢true, cases_lt}
use Rattle.std.proofs.lemmas.Nat.Bits.{bit_at-zero}
use Rattle.std.specs.Int.{bit_at}
use Rattle.abi_bits.specs.Pairs.{Pair}
use Rattle.abi_bits.specs.Mask.{IsMask}
use Rattle.abi_det.specs.Frame.{Frame}
use Rattle.abi_det.specs.Roles.{ok_is_larger, larger, smaller, union_size, spare_byte}
use Rattle.abi_det.specs.Offers.{Rules, Niche, leading_pattern, first_offer}
use Rattle.abi_det.specs.Niches.{IsNiche, IsLeading, IsFirstBelow}
use Rattle.abi_det.specs.Search.{niche_of, IsFirst, IsSpared}
use Rattle.abi_det.specs.State.{is_niche}
use Rattle.abi_det.specs.Written.{means_ok, exported, shared_bits, niched, tagged, placement_of, written_placement, refusals_below}
use Rattle.abi_det.specs.Counted.{found_of, niche_in, IsNicheOf}
use Rattle.abi_det.specs.declared.counted.Found.{Found}
use Rattle.abi_det.specs.declared.offers.Offer.{Offer}
use Rattle.abi_det.specs.declared.placements.Refusal.{Refusal}
use Rattle.abi_det.specs.declared.placements.Kind.{Kind}
use Rattle.abi_det.specs.declared.placements.Kind.TheVariants as kind
use Rattle.abi_det.specs.declared.determinant.Test.{Test}
use Rattle.abi_det.specs.declared.determinant.Test.TheVariants as test
use Rattle.abi_det.proofs.Chosen.{search_of}

-- a bit that is set stands in a byte that is not 0
some_bits : (bits : ℕ → ℕ) (at k : ℕ) → bit_at (bits at) k ≡ 1 → 0 < bits at
some_bits bits at k set = elim (cases_lt 0 (bits at)) [
  | inl lt ↦ lt
  | inr le ↦ let none : bits at ≡ 0 = omega (arith, le) in let zero : bit_at (bits at) k ≡ 0 = rw none (bit_at-zero k) in absurd (omega (arith, set, zero))
]

leading_told : (bits : ℕ → ℕ) (o : Option (List Pair)) (n : ℕ) (t : Test) → IsLeading o n t → (is_niche t ≡ true) × IsSpared bits t
leading_told bits None n t w = absurd w
leading_told bits (Some ps) n t w = rw w.1 (refl, tt)

-- a niche is no tag, and tests free bits
niche_told : (rules : Rules) (large small : Frame) (size k : ℕ) (a : Kind) (n : ℕ) (t : Test) → IsNiche rules large small size k a n t
    → (is_niche t ≡ true) × IsSpared (spare_byte large small (k * small.align) size) t
niche_told rules large small size k kind.SmallerPattern n t w = rw w.1.2 (refl, tt)
niche_told rules large small size k kind.LargerPattern n t w = elim w [
  | inl empty ↦ leading_told (spare_byte large small (k * small.align) size) (leading_pattern rules large) n t empty.1
  | inr beside ↦ rw beside.1.2 (refl, tt)
]
niche_told rules large small size k kind.SharedBit n t w = rw w.2 (refl, some_bits (spare_byte large small (k * small.align) size) (n / 8) (n % 8) w.1)
niche_told rules large small size k kind.Tag n t w = absurd w

-- what the code makes of an offer is what is found of the written placement
pub found_niche : (rules : Rules) (ok err : Frame) (k : ℕ) (o : Offer)
    → Some (k, niche_of o) ≡ first_offer rules (larger ok err) (smaller ok err) (union_size ok err) 8
    → found_of (niched ok err k (niche_of o)) ≡ found_of (written_placement rules ok err)
unfolding written_placement
found_niche rules ok err k o is = rw (← is) refl

pub found_tag : (rules : Rules) (ok err : Frame) → None ≡ first_offer rules (larger ok err) (smaller ok err) (union_size ok err) 8
    → found_of (tagged ok err) ≡ found_of (written_placement rules ok err)
unfolding written_placement
found_tag rules ok err is = rw (← is) refl

module _ (rules : Rules) (ok err : Frame) (f : Found) where
  niche_by : (o : Option (ℕ × Niche)) → IsFirstBelow rules (larger ok err) (smaller ok err) (union_size ok err) 8 o → f ≡ found_of (placement_of ok err o)
      → is_niche f.determinant.test ≡ true → IsNicheOf ok err f × (niched ok err f.place (niche_in f) ≡ placement_of ok err o)
  niche_by None w is niche = absurd (false≢true (rw is at niche))
  niche_by (Some found) w is niche =
      rw is (
        record {
          same = refl;
          exists = w.1;
          spared = (niche_told rules (larger ok err) (smaller ok err) (union_size ok err) found.0 found.1.kind w.2.0 found.1.test w.2.1).1;
        },
        refl,
      )

  tag_by : (o : Option (ℕ × Niche)) → IsFirstBelow rules (larger ok err) (smaller ok err) (union_size ok err) 8 o → f ≡ found_of (placement_of ok err o)
      → is_niche f.determinant.test ≡ false → (f ≡ found_of (tagged ok err)) × (tagged ok err ≡ placement_of ok err o)
  tag_by None w is niche = (is, refl)
  tag_by (Some found) w is niche =
      let told = (niche_told rules (larger ok err) (smaller ok err) (union_size ok err) found.0 found.1.kind w.2.0 found.1.test w.2.1).0 in
      let none : is_niche found.1.test ≡ false = rw is at niche in
      absurd (let q : false ≡ true = rw none at told in cc)

  -- where a search finds a niche, the placement with it is the written one; else that with a tag
  pub niche_placed : IsMask ok.free → IsMask err.free → f ≡ found_of (written_placement rules ok err) → is_niche f.determinant.test ≡ true
      → IsNicheOf ok err f × (niched ok err f.place (niche_in f) ≡ written_placement rules ok err)
  unfolding written_placement
  niche_placed mo me = niche_by (first_offer rules (larger ok err) (smaller ok err) (union_size ok err) 8) (search_of rules ok err mo me)

  pub tag_placed : IsMask ok.free → IsMask err.free → f ≡ found_of (written_placement rules ok err) → is_niche f.determinant.test ≡ false
      → (f ≡ found_of (tagged ok err)) × (tagged ok err ≡ written_placement rules ok err)
  unfolding written_placement
  tag_placed mo me = tag_by (first_offer rules (larger ok err) (smaller ok err) (union_size ok err) 8) (search_of rules ok err mo me)

flipped : (b : Bool) (n : ℕ) → cond (not b) 0 n ≡ cond b n 0
flipped true n = refl
flipped false n = refl

pub niched_made : (ok err : Frame) (f : Found) (ok_shift err_shift : ℕ) (free : List Pair) → f ≡ found_of (niched ok err f.place (niche_in f))
    → ok_shift ≡ cond (ok_is_larger ok err) 0 (f.place * (smaller ok err).align) → err_shift ≡ cond (not (ok_is_larger ok err)) 0 (f.place * (smaller ok err).align)
    → free ≡ exported f.determinant.test (shared_bits ok err (f.place * (smaller ok err).align)) (union_size ok err)
    → record { ok_shift = ok_shift; err_shift = err_shift; place = f.place; front = 0; kind = f.kind; determinant = f.determinant; exported = free; refusals = f.refusals }
    ≡ niched ok err f.place (niche_in f)
niched_made ok err f ok_shift err_shift free is a b x =
    let sign = ap (λ (g : Found). g.determinant.not) is in
    let none = ap (λ (g : Found). g.refusals) is in
    rw (a, b, x, none, sign, flipped (ok_is_larger ok err) (f.place * (smaller ok err).align)) refl

-- what the code makes of its first offer, or of none, is what is found of the written placement
module _ (rules : Rules) (ok err large small : Frame) (size : ℕ) (sign yes : Bool) (o : Option (ℕ × Offer)) (rs : List Refusal) where
  pub niche_found : (k : ℕ) (offer : Offer) → large ≡ larger ok err → small ≡ smaller ok err → size ≡ union_size ok err → sign ≡ ok_is_larger ok err
      → IsFirst (first_offer rules large small size 8) o → o ≡ Some (k, offer) → yes ≡ means_ok offer.kind sign → rs ≡ []
      → record { place = k; kind = offer.kind; determinant = record { «not» = yes; test = offer.test }; refusals = rs } ≡ found_of (written_placement rules ok err)
  niche_found k offer l s u ok_larger first is means none =
      let found = rw (is, l, s, u) at first in
      rw (means, none, ok_larger) (found_niche rules ok err k offer found)

  pub tag_found : large ≡ larger ok err → small ≡ smaller ok err → size ≡ union_size ok err → sign ≡ ok_is_larger ok err
      → IsFirst (first_offer rules large small size 8) o → o ≡ None → yes ≡ means_ok kind.Tag sign → rs ≡ refusals_below large small size 8
      → record { place = 0; kind = kind.Tag; determinant = record { «not» = yes; test = test.BitDeterminant }; refusals = rs } ≡ found_of (written_placement rules ok err)
  tag_found l s u ok_larger first is means all =
      let found = rw (is, l, s, u) at first in
      rw (means, all, ok_larger, l, s, u) (found_tag rules ok err found)
