use Rattle.std.specs.Prelude.{ℕ, ℤ, pos, ◌+◌, ◌-◌, ◌*◌, ◌%◌, ◌^◌, ◌+ℤ◌, ◌*ℤ◌}
use Rattle.std.specs.Int.{Width, cast_signed, cast_unsigned}
use mir.Val.{bits}

-- how far n is above the forbidden number, modulo 2 to the width: 0 for the forbidden number alone
abbrev pub distance : Width → ℕ → ℕ → ℕ
distance w forbidden n = (n + (2 ^ bits w - forbidden)) % 2 ^ bits w

-- the number at that distance
abbrev pub at_distance : Width → ℕ → ℕ → ℕ
at_distance w forbidden far = (far + forbidden) % 2 ^ bits w

-- the same of signed numbers, which are taken as their bits
abbrev pub signed_distance : Width → ℤ → ℤ → ℕ
signed_distance w forbidden n = distance w (cast_unsigned w forbidden) (cast_unsigned w n)

abbrev pub signed_at_distance : Width → ℤ → ℕ → ℤ
signed_at_distance w forbidden far = cast_signed w (at_distance w (cast_unsigned w forbidden) far)

-- a number of 128 bits by its halves
abbrev pub wide : ℕ → ℕ → ℕ
wide high low = high * 2 ^ 64 + low

abbrev pub signed_wide : ℤ → ℕ → ℤ
signed_wide high low = (high *ℤ pos (2 ^ 64)) +ℤ pos low
