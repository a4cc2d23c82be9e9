-- Powers of two against the numbers between them.
use Rattle.std.proofs.Common.{ℕ, ◌≡◌, ◌+◌, ◌-◌, ◌*◌, ◌%◌, ◌^◌, ◌<◌, ◌≤◌, IsTrue, arith, sym, ◌∙◌, ap, eqb-true, inl, inr}
use Rattle.std.proofs.lemmas.Bool.{cases_lt}
use Rattle.std.proofs.Math.Nat.{pow-le-pow_right, mod-eq_of_lt}
use Rattle.std.proofs.lemmas.Nat.{zero_from_ones, pow_below}
use Rattle.std.proofs.lemmas.Nat.Bits.{bit_at-trailing_zeros}
use Rattle.std.specs.Int.{is_power_of_two, trailing_zeros, w128}
use lib.Count.{ones, ones_cat, ones-ones}
use Rattle.abi_num.specs.Unsigned.{IsLowestOne}

power_up_to : (i j : ℕ) → i ≤ j → 2 ^ i ≤ 2 ^ j
power_up_to i j h = pow-le-pow_right {n = 2} (omega arith) h

-- a number below 2 ^ 128 has no digit from place 128 on
pub truncated_above : (a digits : ℕ) → a < 2 ^ 128 → 128 ≤ digits → a ≡ a % 2 ^ digits
truncated_above a digits small above =
    let room : 2 ^ 128 ≤ 2 ^ digits = power_up_to 128 digits above in
    let below : a < 2 ^ digits = omega (arith, room, small) in sym (mod-eq_of_lt below)

-- a number with a digit at place p needs p + 1 places
pub digits_needed : (a p room : ℕ) → 2 ^ p ≤ a → a < 2 ^ room → p + 1 ≤ room
digits_needed a p room lower fits =
    elim (cases_lt p room) [
      | inl above ↦ omega (arith, above)
      | inr under ↦ let over : 2 ^ room ≤ 2 ^ p = power_up_to room p under in absurd (omega (arith, over, lower, fits))
    ]

-- a number with one bit set is the power of two below it
pub power_between : (a p : ℕ) → IsTrue (is_power_of_two a) → 2 ^ p ≤ a → a < 2 * 2 ^ p → 2 ^ p ≡ a
power_between a p one lower upper =
    let rest : a - 2 ^ p < 2 ^ p = omega (arith, lower, upper) in
    let apart : 1 * 2 ^ p + (a - 2 ^ p) ≡ a = omega (arith, lower) in
    let single : ones a ≡ 1 = eqb-true (ones a) 1 one in
    let unit : ones 1 ≡ 1 = ones-ones 1 in
    let counted : ones a ≡ ones 1 + ones (a - 2 ^ p) = ap ones (sym apart) ∙ ones_cat p 1 (a - 2 ^ p) rest in
    let none : ones (a - 2 ^ p) ≡ 0 = omega (arith, counted, single, unit) in
    let zero_rest : a - 2 ^ p ≡ 0 = zero_from_ones (a - 2 ^ p) none in omega (arith, lower, zero_rest)

-- the digits that are 0 at the end of a number give the place of its lowest one
pub lowest_at_zeros : (a : ℕ) → 0 < a → a < 2 ^ 128 → IsLowestOne a (1 * 2 ^ trailing_zeros w128 a % 2 ^ 128)
lowest_at_zeros a some small =
    let place : ℕ = trailing_zeros w128 a in
    let found = bit_at-trailing_zeros w128 a some small in
    let fits : 2 ^ place < 2 ^ 128 = pow_below place 128 found.0 in
    let value : 1 * 2 ^ place % 2 ^ 128 ≡ 2 ^ place = ap (λ (n : ℕ). n % 2 ^ 128) (omega arith) ∙ mod-eq_of_lt fits in
    (place, value, found.1, found.2)
