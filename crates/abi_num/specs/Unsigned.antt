use Rattle.std.specs.Prelude.{ℕ, ◌≡◌, ◌<◌, ◌^◌}
use Rattle.std.specs.Int.{bit_at}

-- the value of the lowest binary digit of a that is 1
abbrev pub IsLowestOne : ℕ → ℕ → Type 0
IsLowestOne a value =
    (place : ℕ) × (value ≡ 2 ^ place) × (bit_at a place ≡ 1)
    × ((below : ℕ) → below < place → bit_at a below ≡ 0)
