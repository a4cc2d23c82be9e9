-- The ranges of narrow types against the bits of the types that keep them.
use Rattle.std.proofs.Common.{ℕ, ◌≡◌, ◌+◌, ◌-◌, ◌^◌, ◌<◌, ◌≤◌, Bool, true, false, cond, ℤ, pos, negsuc, ◌≤ℤ◌, FitsSigned, IsTrue, arith, refl, lit≤}
use Rattle.std.proofs.lemmas.Bool.Decides.{nat_tests}
use Rattle.std.proofs.lemmas.Int.{ints}
use Rattle.std.proofs.lemmas.Nat.{pow_pos}
use Rattle.std.proofs.Math.Nat.{pow-le-pow_right}
use Rattle.std.specs.Int.{Width, w8, w16, w32, w64, w128}
use mir.Val.{bits, hbits}
use Rattle.abi_narrow_i.specs.Width.{has_width, greatest, least, InRange}

power_up_to : (i j : ℕ) → i ≤ j → 2 ^ i ≤ 2 ^ j
power_up_to i j h = pow-le-pow_right {n = 2} (omega arith) h

bits_at_most : (w : Width) → bits w ≤ 128
bits_at_most w8 = lit≤ tt
bits_at_most w16 = lit≤ tt
bits_at_most w32 = lit≤ tt
bits_at_most w64 = lit≤ tt
bits_at_most w128 = lit≤ tt

half_bits : (w : Width) → bits w ≡ hbits w + 1
half_bits w8 = refl
half_bits w16 = refl
half_bits w32 = refl
half_bits w64 = refl
half_bits w128 = refl

held_below : (w : Width) (digits : ℕ) → has_width w digits ≡ true → digits < bits w
held_below w digits held = grind (arith, nat_tests)

pub digits_bound : (w : Width) (digits : ℕ) → IsTrue (has_width w digits) → digits < 128
digits_bound w digits held = omega (arith, held_below w digits held, bits_at_most w)

pub digits_some : (w : Width) (digits : ℕ) → IsTrue (has_width w digits) → 0 < digits
digits_some w digits held = grind (arith, nat_tests)

half_room : (w : Width) (digits : ℕ) → has_width w digits ≡ true → 2 ^ (digits - 1) ≤ 2 ^ hbits w
half_room w digits held = power_up_to (digits - 1) (hbits w) (omega (arith, held_below w digits held, half_bits w))

-- a number in range fits the type that keeps it
fits_by : (held : Bool) (w : Width) (digits : ℕ) (z : ℤ) → has_width w digits ≡ held → cond held (least digits) (pos 0) ≤ℤ z → z ≤ℤ cond held (greatest digits) (pos 0) → FitsSigned w z
fits_by true w digits (pos n) e above below =
    let top : n ≤ 2 ^ (digits - 1) - 1 = omega (arith, ints, below) in
    record { sfits = omega (arith, top, pow_pos (digits - 1), half_room w digits e) }
fits_by true w digits (negsuc n) e above below =
    let bottom : n ≤ 2 ^ (digits - 1) - 1 = omega (arith, ints, above) in
    record { sfits = omega (arith, bottom, pow_pos (digits - 1), half_room w digits e) }
fits_by false w digits (pos n) e above below =
    let none : n ≡ 0 = omega (arith, ints, below) in
    record { sfits = omega (arith, none, pow_pos (hbits w)) }
fits_by false w digits (negsuc n) e above below = absurd (omega (arith, ints, above))

pub in_range_fits : (w : Width) (digits : ℕ) (z : ℤ) → InRange w digits z → FitsSigned w z
in_range_fits w digits z range = fits_by (has_width w digits) w digits z refl range.0 range.1
