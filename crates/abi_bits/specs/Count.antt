-- Niche counts: none, one, many.
use Rattle.std.specs.Prelude.{ℕ, zero, suc, ◌+◌}
use Rattle.abi_bits.specs.declared.saturating_add_value.SaturatingAddValue.{SaturatingAddValue}
use Rattle.abi_bits.specs.declared.saturating_add_value.SaturatingAddValue.TheVariants.{B0, B1, Saturator}

-- how many niches are known of, two standing for many
abbrev pub count : SaturatingAddValue → ℕ
count B0 = 0
count B1 = 1
count Saturator = 2

abbrev pub of_count : ℕ → SaturatingAddValue
of_count zero = B0
of_count (suc zero) = B1
of_count (suc (suc n)) = Saturator

-- the niches of two places together
abbrev pub added : SaturatingAddValue → SaturatingAddValue → SaturatingAddValue
added a b = of_count (count a + count b)
