use Rattle.std.specs.Prelude.{ℕ, ℤ, pos, negsuc, suc, cond, nat_lt, ◌-◌, ◌%◌, ◌^◌, bit_and, bit_or}
use Rattle.std.specs.Int.{Width}
use Rattle.abi_narrow_i.specs.Width.{has_width}

-- the low binary digits of a number, negative ones in two's complement
abbrev pub low_digits : ℕ → ℤ → ℕ
low_digits digits (pos n) = n % 2 ^ digits
low_digits digits (negsuc n) = 2 ^ digits - suc (n % 2 ^ digits)

-- the number with these digits, of which the first is the sign
abbrev pub sign_extended : ℕ → ℕ → ℤ
sign_extended digits low =
    cond (nat_lt low (2 ^ (digits - 1))) (pos low) (negsuc (2 ^ digits - suc low))

-- this number, or 0 where the type does not hold numbers of that width
abbrev pub held : Width → ℕ → ℤ → ℤ
held w digits z = cond (has_width w digits) z (pos 0)

-- the digits that both have, and those that one or both have
abbrev pub both : Width → ℕ → ℤ → ℤ → ℤ
both w digits x y =
    held w digits (sign_extended digits (bit_and (low_digits digits x) (low_digits digits y)))

abbrev pub either : Width → ℕ → ℤ → ℤ → ℤ
either w digits x y =
    held w digits (sign_extended digits (bit_or (low_digits digits x) (low_digits digits y)))
