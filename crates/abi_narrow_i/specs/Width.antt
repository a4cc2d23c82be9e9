use Rattle.std.specs.Prelude.{ℕ, ℤ, pos, negsuc, Bool, ◌&&◌, cond, nat_lt, ◌-◌, ◌^◌, ◌≤ℤ◌}
use Rattle.std.specs.Int.{Width, w8, w16, w32, w64, w128}
use mir.Val.{bits}

-- the bits of the next smaller type
abbrev pub smaller_bits : Width → ℕ
smaller_bits w8 = 0
smaller_bits w16 = 8
smaller_bits w32 = 16
smaller_bits w64 = 32
smaller_bits w128 = 64

-- a type holds the numbers with more digits than the next smaller type has bits and fewer than it has itself
abbrev pub has_width : Width → ℕ → Bool
has_width w digits = nat_lt (smaller_bits w) digits && nat_lt digits (bits w)

-- the greatest and the least number of that many digits, of which the first is the sign
abbrev pub greatest : ℕ → ℤ
greatest digits = pos (2 ^ (digits - 1) - 1)

abbrev pub least : ℕ → ℤ
least digits = negsuc (2 ^ (digits - 1) - 1)

-- z is one of the numbers of that many digits
abbrev pub IsWithin : ℕ → ℤ → Type 0
IsWithin digits z = (least digits ≤ℤ z) × (z ≤ℤ greatest digits)

-- the same, or 0 where the type does not hold them
abbrev pub InRange : Width → ℕ → ℤ → Type 0
InRange w digits z =
    (cond (has_width w digits) (least digits) (pos 0) ≤ℤ z)
    × (z ≤ℤ cond (has_width w digits) (greatest digits) (pos 0))
