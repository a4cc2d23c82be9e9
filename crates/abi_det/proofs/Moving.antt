-- Patterns that are moved, and bytes that lie in a union.
use Rattle.std.proofs.Common.{◌≡◌, ℕ, ◌+◌, ◌<◌, ◌≤◌, true, false, not, List, [], ◌∷◌, eqb, ltb, refl, map, inl, inr, arith}
use Rattle.std.proofs.lemmas.Bool.{and_parts, and_from, eqb-true, lt-ltb, le-ltb, cases_lt}
use Rattle.abi_bits.specs.Pairs.{Pair, are_rising, are_below, is_empty, IsPattern, moved_pairs}
use Rattle.abi_bits.proofs.Entries.{rising_below}
use Rattle.abi_det.specs.Frame.{Frame}
use Rattle.abi_det.specs.Roles.{union_byte, lies_free}

pub pattern_below : (ps : List Pair) → IsPattern ps → are_below 1048576 ps ≡ true
pattern_below ps h = rising_below ps 0 (and_parts (not (is_empty ps)) (are_rising 0 ps) h).1

-- a byte that is wholly free in a union lies in it
free_in : (f : Frame) (shift size at : ℕ) → eqb (union_byte f shift size at) 255 ≡ true → at < size
free_in f shift size at h = elim (cases_lt at size) [
  | inl lt ↦ lt
  | inr le ↦ let none : ltb at size ≡ false = le-ltb at size le in let same = eqb-true (union_byte f shift size at) 255 h in absurd (omega (arith, rw none at same))
]

pub free_below : (f : Frame) (shift size : ℕ) (ps : List Pair) → size ≤ 1048576 → lies_free (union_byte f shift size) ps ≡ true → are_below 1048576 ps ≡ true
free_below f shift size [] le h = refl
free_below f shift size (p ∷ ps) le h =
    let q = and_parts (eqb (union_byte f shift size p.0) 255) (lies_free (union_byte f shift size) ps) h in
    let lt : p.0 < size = free_in f shift size p.0 q.0 in
    and_from (ltb p.0 1048576) (are_below 1048576 ps) (lt-ltb p.0 1048576 (omega arith)) (free_below f shift size ps le q.1)

-- moving by nothing changes nothing
pub moved_by_none : (ps : List Pair) → moved_pairs 0 ps ≡ ps
moved_by_none [] = refl
moved_by_none (p ∷ ps) = let same : p.0 + 0 ≡ p.0 = omega arith in rw (same, moved_by_none ps) refl

pub all_moved_by_none : (pss : List (List Pair)) → map (moved_pairs 0) pss ≡ pss
all_moved_by_none [] = refl
all_moved_by_none (ps ∷ pss) = rw (moved_by_none ps, all_moved_by_none pss) refl
