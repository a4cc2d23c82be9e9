use Rattle.std.specs.Prelude.{ℕ, ◌-◌, ◌^◌}

-- the greatest number of a width in bits
abbrev pub greatest : ℕ → ℕ
greatest width = 2 ^ width - 1

-- every bit of a number of that width turned
abbrev pub complement : ℕ → ℕ → ℕ
complement width n = greatest width - n
