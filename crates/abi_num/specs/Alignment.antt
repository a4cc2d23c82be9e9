use Rattle.std.specs.Prelude.{ℕ, Bool, ◌&&◌, nat_le, IsTrue}
use Rattle.std.specs.Int.{is_power_of_two}

-- the greatest alignment, in bytes
abbrev pub max_align : ℕ
max_align = 65536

-- a power of two up to the greatest alignment
abbrev pub is_alignment : ℕ → Bool
is_alignment n = nat_le n max_align && is_power_of_two n

abbrev pub IsAlignment : ℕ → Type 0
IsAlignment n = IsTrue (is_alignment n)
