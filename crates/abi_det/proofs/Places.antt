-- The search among the places, step by step.
use Rattle.std.proofs.Common.{◌≡◌, ℕ, zero, suc, ◌+◌, ◌*◌, ◌<◌, ◌≤◌, true, false, eqb, Some, None, refl, sym, inl, inr, arith, add-one}
use Rattle.std.proofs.lemmas.Bool.{eqb-true, eq-eqb, cases_lt}
use Rattle.abi_det.specs.Frame.{Frame}
use Rattle.abi_det.specs.Roles.{larger, smaller, union_size, is_place}
use Rattle.abi_det.specs.Offers.{Rules, Niche, offer_at, first_offer}
use Rattle.abi_det.specs.Written.{written_placement, niched, tagged}
use Rattle.abi_det.specs.Search.{niche_of}
use Rattle.abi_det.specs.declared.offers.Offer.{Offer}

-- an empty variant has place 0 alone
pub shift_of_empty : (small : Frame) (size k : ℕ) → small.size ≡ 0 → is_place small size k ≡ true → k * small.align ≡ 0
shift_of_empty small size k none h =
    let empty : eqb small.size 0 ≡ true = eq-eqb small.size 0 none in
    let first : eqb k 0 ≡ true = rw empty at h in
    let same : k ≡ 0 = eqb-true k 0 first in
    rw same (omega arith)

module _ (rules : Rules) (large small : Frame) (size : ℕ) where
  pub none_where_no_place : (k : ℕ) → first_offer rules large small size k ≡ None → is_place small size k ≡ false → first_offer rules large small size (k + 1) ≡ None
  unfolding first_offer
  none_where_no_place k before none = rw (add-one, before, none) refl

  pub none_where_no_offer : (k : ℕ) → first_offer rules large small size k ≡ None → is_place small size k ≡ true → None ≡ offer_at rules large small size k
      → first_offer rules large small size (k + 1) ≡ None
  unfolding first_offer
  none_where_no_offer k before is none = rw (add-one, before, is, ← none) refl

  pub none_at_start : first_offer rules large small size 0 ≡ None
  unfolding first_offer
  none_at_start = refl

  -- a later place changes nothing
  kept : (k n : ℕ) (found : ℕ × Niche) → k ≤ n → first_offer rules large small size k ≡ Some found → first_offer rules large small size n ≡ Some found
  unfolding first_offer
  kept k zero found le is = let same : k ≡ 0 = omega arith in rw same at is
  kept k (suc n) found le is = elim (cases_lt n k) [
    | inl lt ↦ let same : k ≡ suc n = omega arith in rw same at is
    | inr before ↦ rw (kept k n found before is) refl
  ]

  pub first_found : (k : ℕ) (f : Offer) → first_offer rules large small size k ≡ None → is_place small size k ≡ true → k < 8
      → Some (niche_of f) ≡ offer_at rules large small size k → Some (k, niche_of f) ≡ first_offer rules large small size 8
  unfolding first_offer
  first_found k f before is lt offers = sym (kept (suc k) 8 (k, niche_of f) (omega arith) (rw (before, is, ← offers) refl))

-- the placement that the first offer makes is the written one
pub written_niched : (rules : Rules) (ok err : Frame) (k : ℕ) (f : Offer) → Some (k, niche_of f) ≡ first_offer rules (larger ok err) (smaller ok err) (union_size ok err) 8
    → niched ok err k (niche_of f) ≡ written_placement rules ok err
unfolding written_placement
written_niched rules ok err k f h = rw (← h) refl

pub written_tagged : (rules : Rules) (ok err : Frame) → None ≡ first_offer rules (larger ok err) (smaller ok err) (union_size ok err) 8
    → tagged ok err ≡ written_placement rules ok err
unfolding written_placement
written_tagged rules ok err h = rw (← h) refl
