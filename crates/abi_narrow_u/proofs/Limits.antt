-- The limit of a narrow type against the bits of the type that keeps it.
use Rattle.std.proofs.Common.{ℕ, ◌≡◌, ◌+◌, ◌*◌, ◌^◌, ◌<◌, ◌≤◌, Bool, true, false, cond, IsTrue, bit_or, arith, refl, lit≤}
use Rattle.std.proofs.lemmas.Bool.Decides.{nat_tests}
use Rattle.std.proofs.lemmas.Grind.{pow_more}
use Rattle.std.proofs.lemmas.Nat.{or_lt}
use Rattle.std.proofs.Math.Nat.{pow-le-pow_right}
use Rattle.std.specs.Int.{Width, w8, w16, w32, w64, w128}
use mir.Val.{bits}
use Rattle.abi_narrow_u.specs.Width.{has_width, limit}

power_up_to : (i j : ℕ) → i ≤ j → 2 ^ i ≤ 2 ^ j
power_up_to i j h = pow-le-pow_right {n = 2} (omega arith) h

bits_at_most : (w : Width) → bits w ≤ 128
bits_at_most w8 = lit≤ tt
bits_at_most w16 = lit≤ tt
bits_at_most w32 = lit≤ tt
bits_at_most w64 = lit≤ tt
bits_at_most w128 = lit≤ tt

bits_at_least : (w : Width) → 1 ≤ bits w
bits_at_least w8 = lit≤ tt
bits_at_least w16 = lit≤ tt
bits_at_least w32 = lit≤ tt
bits_at_least w64 = lit≤ tt
bits_at_least w128 = lit≤ tt

held_below : (w : Width) (digits : ℕ) → has_width w digits ≡ true → digits < bits w
held_below w digits held = grind (arith, nat_tests)

-- a held width is below 128
pub digits_bound : (w : Width) (digits : ℕ) → IsTrue (has_width w digits) → digits < 128
digits_bound w digits held = omega (arith, held_below w digits held, bits_at_most w)

pub limit_held : (w : Width) (digits : ℕ) → IsTrue (has_width w digits) → limit w digits ≡ 2 ^ digits
limit_held w digits held = rw held refl

twice_by : (held : Bool) (w : Width) (digits : ℕ) → has_width w digits ≡ held → 2 * cond held (2 ^ digits) 1 ≤ 2 ^ bits w
twice_by true w digits e =
    omega (arith, power_up_to (digits + 1) (bits w) (omega (arith, held_below w digits e)), pow_more 2 digits)
twice_by false w digits e = power_up_to 1 (bits w) (bits_at_least w)

-- twice a number below the limit fits
pub limit_room : (w : Width) (digits : ℕ) → 2 * limit w digits ≤ 2 ^ bits w
limit_room w digits = twice_by (has_width w digits) w digits refl

pub bits_bound : (w : Width) → 2 ^ bits w ≤ 2 ^ 128
bits_bound w = power_up_to (bits w) 128 (bits_at_most w)

pub limit_fits : (w : Width) (digits a : ℕ) → a < limit w digits → a < 2 ^ bits w
limit_fits w digits a below = omega (arith, limit_room w digits, below)

either_by : (held : Bool) (digits a b : ℕ) → a < cond held (2 ^ digits) 1 → b < cond held (2 ^ digits) 1 → bit_or a b < cond held (2 ^ digits) 1
either_by true digits a b below_a below_b = or_lt digits a b below_a below_b
either_by false digits a b below_a below_b = or_lt 0 a b below_a below_b

-- what is set in one of two numbers stays below their limit
pub either_limited : (w : Width) (digits a b : ℕ) → a < limit w digits → b < limit w digits → bit_or a b < limit w digits
either_limited w digits a b below_a below_b = either_by (has_width w digits) digits a b below_a below_b
