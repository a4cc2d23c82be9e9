use Rattle.std.specs.Prelude.{ℕ, Bool, ◌&&◌, cond, nat_lt, ◌^◌}
use Rattle.std.specs.Int.{Width, w8, w16, w32, w64, w128}
use mir.Val.{bits}

-- the bits of the next smaller type
abbrev pub smaller_bits : Width → ℕ
smaller_bits w8 = 0
smaller_bits w16 = 8
smaller_bits w32 = 16
smaller_bits w64 = 32
smaller_bits w128 = 64

-- a type holds the numbers with more digits than the next smaller type has bits and fewer than it has itself
abbrev pub has_width : Width → ℕ → Bool
has_width w digits = nat_lt (smaller_bits w) digits && nat_lt digits (bits w)

-- one more than the greatest number of that many digits; 1, so that 0 is alone, where the type does not hold them
abbrev pub limit : Width → ℕ → ℕ
limit w digits = cond (has_width w digits) (2 ^ digits) 1
