-- Patterns of zeros.
use Rattle.std.proofs.Common.{◌≡◌, ℕ, zero, suc, ◌+◌, ◌<◌, ◌≤◌, true, not, List, [], ◌∷◌, ◌++◌, ltb, refl, arith}
use Rattle.std.proofs.lemmas.Bool.{and_from, lt-ltb}
use Rattle.abi_bits.specs.Pairs.{Pair, are_rising, are_below, is_empty, IsPattern}
use Rattle.abi_bits.proofs.Masks.{rising_push}
use Rattle.abi_layout.specs.Prims.{zero_bytes}
use Rattle.abi_layout.proofs.Bytes.{below_wider, below-append}

pub one_zero_more : (n : ℕ) (ps out : List Pair) → ps ≡ zero_bytes n → out ≡ ps ++ (n, 0) ∷ [] → out ≡ zero_bytes (n + 1)
one_zero_more n ps out q e = let s : n + 1 ≡ suc n = omega arith in rw (s, e, q) refl

zeros_below : (n : ℕ) → are_below n (zero_bytes n) ≡ true
zeros_below zero = refl
zeros_below (suc n) =
    below-append (suc n) (zero_bytes n) ((n, 0) ∷ []) (below_wider n (suc n) (zero_bytes n) (omega arith) (zeros_below n))
    (and_from (ltb n (suc n)) true (lt-ltb n (suc n) (omega arith)) refl)

zeros_rise : (n : ℕ) → n ≤ 1048576 → are_rising 0 (zero_bytes n) ≡ true
zeros_rise zero le = refl
zeros_rise (suc n) le = rising_push (zero_bytes n) 0 n 0 (zeros_rise n (omega arith)) (zeros_below n) (omega arith) (omega arith)

some_zeros : (ps : List Pair) (p : Pair) → not (is_empty (ps ++ p ∷ [])) ≡ true
some_zeros [] p = refl
some_zeros (q ∷ ps) p = refl

pub zeros_are_pattern : (n : ℕ) (ps : List Pair) → 0 < n → n ≤ 1048576 → ps ≡ zero_bytes n → IsPattern ps
zeros_are_pattern zero ps pos le q = absurd (omega arith)
zeros_are_pattern (suc n) ps pos le q =
    rw q (and_from (not (is_empty (zero_bytes (suc n)))) (are_rising 0 (zero_bytes (suc n))) (some_zeros (zero_bytes n) (n, 0)) (zeros_rise (suc n) le))
