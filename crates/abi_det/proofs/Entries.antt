-- The entries of a set that is told byte by byte.
use Rattle.std.proofs.Common.{◌≡◌, ℕ, zero, suc, ◌+◌, ◌<◌, ◌≤◌, true, false, cond, eqb, ltb, List, [], ◌∷◌, ◌++◌, Some, None, refl, inl, inr, arith, append-nil, append_assoc, add-one}
use Rattle.std.proofs.lemmas.Bool.{eq-eqb, ne_eqb, lt-ltb, cases_lt, cases_eq}
use Rattle.std.proofs.lemmas.List.Folds.{list_all-append}
use Rattle.abi_bits.specs.Pairs.{Pair, are_below}
use Rattle.abi_bits.specs.Mask.{entries_below, lowest, least_bit}
use Rattle.abi_bits.proofs.Entries.{gap}
use Rattle.abi_det.specs.Offers.{by_bit}
use Rattle.abi_det.specs.Search.{IsNextBelow}
use Rattle.abi_det.specs.declared.placements.Kind.TheVariants as kind
use Rattle.abi_det.specs.declared.determinant.Test.TheVariants as test

-- one byte more, past bytes without a bit
pub entries_step : (bits : ℕ → ℕ) (from at m : ℕ) → from ≤ at → ((i : ℕ) → from ≤ i → i < at → bits i ≡ 0) → bits at ≡ m
    → entries_below bits (at + 1) ≡ entries_below bits from ++ cond (eqb m 0) [] ((at, m) ∷ [])
unfolding entries_below
entries_step bits from at m le none same = rw (add-one, same, gap bits from at le none) refl

-- the entries of the first bytes come first
entries_front : (bits : ℕ → ℕ) (m n : ℕ) → m ≤ n → (rest : List Pair) × (entries_below bits n ≡ entries_below bits m ++ rest)
unfolding entries_below
entries_front bits m zero le = let same : m ≡ 0 = omega arith in ([], rw same refl)
entries_front bits m (suc n) le = elim (cases_lt n m) [
  | inl lt ↦ let same : m ≡ suc n = omega arith in ([], rw (same, append-nil) refl)
  | inr le ↦
      let q = entries_front bits m n le in
      (q.0 ++ cond (eqb (bits n) 0) [] ((n, bits n) ∷ []), rw q.1 (append_assoc (entries_below bits m) q.0 (cond (eqb (bits n) 0) [] ((n, bits n) ∷ []))))
]

entry_lies : (n at m : ℕ) → at < n → are_below n (cond (eqb m 0) [] ((at, m) ∷ [])) ≡ true
entry_lies n at m lt = elim (cases_eq m 0) [
  | inl q ↦ let none : eqb m 0 ≡ true = eq-eqb m 0 q in rw none refl
  | inr q ↦ let some : eqb m 0 ≡ false = ne_eqb m 0 q in let here : ltb at n ≡ true = lt-ltb at n lt in rw (some, here) refl
]

pub entries_lie : (bits : ℕ → ℕ) (n m : ℕ) → m ≤ n → are_below n (entries_below bits m) ≡ true
unfolding entries_below
entries_lie bits n zero le = refl
entries_lie bits n (suc m) le =
    rw (list_all-append (λ p. ltb p.0 n) (entries_below bits m) (cond (eqb (bits m) 0) [] ((m, bits m) ∷ [])), entries_lie bits n m (omega arith)) (entry_lies n m (bits m) (omega arith))

entries_none : (bits : ℕ → ℕ) → entries_below bits 0 ≡ []
unfolding entries_below
entries_none bits = refl

-- the first byte with a bit has the least one
pub least_of_first : (bits : ℕ → ℕ) (n at m : ℕ) → IsNextBelow bits n 0 (Some (at, m)) → least_bit (entries_below bits n) ≡ Some (at, lowest m)
least_of_first bits n at m next =
    let front = entries_front bits (at + 1) n (omega (arith, next.1)) in
    let first = entries_step bits 0 at m (omega arith) next.4 next.3 in
    let some : eqb m 0 ≡ false = ne_eqb m 0 (λ q. absurd (omega (arith, next.2, q))) in
    rw (front.1, first, some, entries_none bits) refl

pub least_of_none : (bits : ℕ → ℕ) (n : ℕ) → IsNextBelow bits n 0 None → least_bit (entries_below bits n) ≡ None
least_of_none bits n next = rw (gap bits 0 n (omega arith) next, entries_none bits) refl

pub bit_found : (bits : ℕ → ℕ) (n at m low : ℕ) → IsNextBelow bits n 0 (Some (at, m)) → low ≡ lowest m
    → Some (record { kind = kind.SharedBit; test = test.BitIsErr at low }) ≡ by_bit (least_bit (entries_below bits n))
bit_found bits n at m low next same = rw (least_of_first bits n at m next, same) refl

pub no_bit_found : (bits : ℕ → ℕ) (n : ℕ) → IsNextBelow bits n 0 None → None ≡ by_bit (least_bit (entries_below bits n))
no_bit_found bits n next = rw (least_of_none bits n next) refl
