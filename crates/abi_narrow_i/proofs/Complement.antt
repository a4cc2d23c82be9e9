-- Low digits and powers of two below 2 ^ 128.
use Rattle.std.proofs.Common.{ℕ, suc, ◌≡◌, ◌+◌, ◌-◌, ◌*◌, ◌/◌, ◌%◌, ◌^◌, ◌<◌, ◌≤◌, ℤ, pos, negsuc, arith, refl, ap, sym, ◌∙◌, FitsSigned}
use Rattle.std.proofs.lemmas.Nat.{mod_low, mod_below, pow_pos, pow-add, div-add-mod'}
use Rattle.std.proofs.Math.Nat.{pow-le-pow_right, lt_of_mul-lt-mul_right}
use Rattle.std.specs.Int.{w128, cast_unsigned}
use Rattle.abi_narrow_i.specs.Digits.{low_digits}

power_up_to : (i j : ℕ) → i ≤ j → 2 ^ i ≤ 2 ^ j
power_up_to i j h = pow-le-pow_right {n = 2} (omega arith) h

pub power_bound : (exponent : ℕ) → exponent < 128 → 2 ^ exponent ≤ 2 ^ 127
power_bound exponent below = power_up_to exponent 127 (omega arith)

-- `whole` is `many` units, and n is `high` units and `low`
turned_parts : (unit many whole high low n : ℕ) → high * unit + low ≡ n → low < unit → high < many → whole ≡ many * unit → (many - suc high) * unit + (unit - suc low) ≡ whole - suc n
turned_parts unit many whole high low n parts small few product =
    let rest : ℕ = many - suc high in
    let apart : high + 1 + rest ≡ many = omega (arith, few) in
    let units : (high + 1 + rest) * unit ≡ many * unit = ap (λ (k : ℕ). k * unit) apart in
    omega (arith, units, parts, small, product)

-- turning every digit of n turns its low digits
complement_low : (n digits rest : ℕ) → rest + digits ≡ 128 → n < 2 ^ 128 → (2 ^ 128 - suc n) % 2 ^ digits ≡ 2 ^ digits - suc (n % 2 ^ digits)
complement_low n digits rest whole below =
    let high : ℕ = n / 2 ^ digits in
    let low : ℕ = n % 2 ^ digits in
    let parts : high * 2 ^ digits + low ≡ n = div-add-mod' n (2 ^ digits) in
    let product : 2 ^ 128 ≡ 2 ^ rest * 2 ^ digits = ap (λ (k : ℕ). 2 ^ k) (sym whole) ∙ pow-add 2 rest digits in
    let small : low < 2 ^ digits = mod_below n (2 ^ digits) (pow_pos digits) in
    let few : high < 2 ^ rest = lt_of_mul-lt-mul_right (2 ^ digits) {m = high} {n = 2 ^ rest} (omega (arith, parts, product, below)) in
    let turned : (2 ^ rest - suc high) * 2 ^ digits + (2 ^ digits - suc low) ≡ 2 ^ 128 - suc n = turned_parts (2 ^ digits) (2 ^ rest) (2 ^ 128) high low n parts small few product in
    ap (λ (k : ℕ). k % 2 ^ digits) (sym turned) ∙ mod_low (2 ^ rest - suc high) digits (2 ^ digits - suc low) (omega (arith, small))

-- the low digits of the bits of n are its low digits
pub low_of_bits : (digits : ℕ) (n : ℤ) → digits < 128 → FitsSigned w128 n → cast_unsigned w128 n % 2 ^ digits ≡ low_digits digits n
low_of_bits digits (pos n) below fits = refl
low_of_bits digits (negsuc n) below fits = complement_low n digits (128 - digits) (omega arith) (omega (arith, fits.sfits))
