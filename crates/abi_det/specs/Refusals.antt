-- What refusals tell.
use Rattle.std.specs.Prelude.{◌≡◌, ◌≢◌, ℕ, ◌+◌, List, [], ◌∷◌, ◌++◌, Bool, true, ◌&&◌, nat_le, ◌==◌}
use Rattle.std.specs.List.{list_all, list_any}
use Rattle.abi_bits.specs.Pairs.{Pair}
use Rattle.abi_det.specs.Frame.{Frame}
use Rattle.abi_det.specs.Roles.{smaller, union_size, is_place, lies_free}
use Rattle.abi_det.specs.Offers.{Rules}
use Rattle.abi_det.specs.Written.{refusal_holds}
use Rattle.abi_det.specs.declared.placements.Refusal.{Refusal}

-- every existing place of the sum has a refusal that holds
abbrev pub AllRefuse : Rules → Frame → Frame → Type 0
AllRefuse rules ok err =
    (k : ℕ) → is_place (smaller ok err) (union_size ok err) k ≡ true → (r : Refusal)
    × (r.place ≡ k) × (refusal_holds rules ok err r ≡ true)

-- the places rise from `least` on
abbrev pub places_rise : ℕ → List Refusal → Bool
places_rise least [] = true
places_rise least (r ∷ rs) = nat_le least r.place && places_rise (r.place + 1) rs

-- refusals that hold, one for each existing place, by rising place
pub record AreComplete (rules : Rules) (ok err : Frame) (rs : List Refusal) : Type 0 where
  pub hold : list_all (refusal_holds rules ok err) rs ≡ true
  pub rise : places_rise 0 rs ≡ true
  pub each : (k : ℕ) → list_any (λ r. r.place == k) rs
      ≡ is_place (smaller ok err) (union_size ok err) k

-- the byte is the first of the pattern's that is not wholly free
pub record IsFirstBlocking (free : ℕ → ℕ) (ps : List Pair) (at : ℕ) : Type 0 where
  pub before : List Pair
  pub value : ℕ
  pub after : List Pair
  pub is : ps ≡ before ++ (at, value) ∷ after
  pub free_before : lies_free free before ≡ true
  pub blocked : free at ≢ 255
