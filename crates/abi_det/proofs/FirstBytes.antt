-- The least bit of a set that is told byte by byte.
use Rattle.std.proofs.Common.{◌≡◌, ℕ, zero, suc, ◌<◌, true, false, List, [], ◌∷◌, ◌++◌, Option, Some, None, eqb, refl, inl, inr, arith}
use Rattle.std.proofs.lemmas.Bool.{ne_eqb, eq-eqb, cases_lt, cases_eq}
use Rattle.abi_bits.specs.Pairs.{Pair}
use Rattle.abi_bits.specs.Mask.{entries_below, lowest, least_bit}
use Rattle.abi_bits.proofs.Entries.{byte_list}
use Rattle.abi_det.specs.Offers.{or_else}

-- the first byte below n that has a bit, and its lowest bit
abbrev pub FirstByte : (ℕ → ℕ) → ℕ → Option Pair → Type 0
FirstByte bits n None = (at : ℕ) → at < n → bits at ≡ 0
FirstByte bits n (Some e) = (e.0 < n) × (0 < bits e.0) × (e.1 ≡ lowest (bits e.0)) × ((at : ℕ) → at < e.0 → bits at ≡ 0)

least_bit-append : (xs ys : List Pair) → least_bit (xs ++ ys) ≡ or_else (least_bit xs) (least_bit ys)
least_bit-append [] ys = refl
least_bit-append (e ∷ xs) ys = refl

first_more : (bits : ℕ → ℕ) (n : ℕ) (found : Option Pair) → FirstByte bits n found → FirstByte bits (suc n) (or_else found (least_bit (byte_list n (bits n))))
first_more bits n (Some e) f = (omega (arith, f.0), f.1, f.2, f.3)
first_more bits n None f = elim (cases_eq (bits n) 0) [
  | inl q ↦
      let t : eqb (bits n) 0 ≡ true = eq-eqb (bits n) 0 q in
      rw t (λ at lt. elim (cases_lt at n) [ inl below ↦ f at below | inr le ↦ let same : at ≡ n = omega (arith, lt, le) in rw same q ])
  | inr ne ↦
      let t : eqb (bits n) 0 ≡ false = ne_eqb (bits n) 0 ne in
      rw t (omega arith, omega (arith, ne), refl, f)
]

pub first_byte : (bits : ℕ → ℕ) (n : ℕ) → FirstByte bits n (least_bit (entries_below bits n))
unfolding entries_below
first_byte bits zero = λ at lt. absurd (omega (arith, lt))
first_byte bits (suc n) = rw (least_bit-append (entries_below bits n) (byte_list n (bits n))) (first_more bits n (least_bit (entries_below bits n)) (first_byte bits n))
