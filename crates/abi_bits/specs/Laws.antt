-- Laws of sets of bits and of niche counts.
use Rattle.std.specs.Prelude.{◌≡◌, ℕ, ◌/◌, ◌%◌, ◌^◌, Some, ◌<◌, ◌≤◌, List, true, nat_lt, if◌then◌else◌}
use Rattle.abi_bits.specs.Pairs.{Pair, are_below, max_size}
use Rattle.abi_bits.specs.Mask.{mask_at, Has, HasBytes, HasBits, IsMask, IsLeast, least_bit, entries_below}

-- sets with the same bytes have the same entries
abbrev pub SameBytes : Type 0
SameBytes =
    (es fs : List Pair) → IsMask es → IsMask fs → HasBytes (mask_at fs) es → es ≡ fs

-- a set is what its bytes tell
abbrev pub FromBytes : Type 0
FromBytes =
    (es : List Pair) (n : ℕ) → IsMask es → are_below n es ≡ true → n ≤ max_size
    → es ≡ entries_below (mask_at es) n

-- what a function tells of the bytes below n is what the set has there, and it has nothing from n on
abbrev pub EntriesAt : Type 0
EntriesAt =
    (f : ℕ → ℕ) (n at : ℕ) → mask_at (entries_below f n) at ≡ (if nat_lt at n then f at else 0)

abbrev pub EntriesAreMask : Type 0
EntriesAreMask =
    (f : ℕ → ℕ) (n : ℕ) → n ≤ max_size → ((at : ℕ) → f at < 256) → IsMask (entries_below f n)

abbrev pub EntriesLieBelow : Type 0
EntriesLieBelow = (f : ℕ → ℕ) (n : ℕ) → are_below n (entries_below f n) ≡ true

-- sets with the same bits have the same entries
abbrev pub SameBits : Type 0
SameBits = (es fs : List Pair) → IsMask es → IsMask fs → HasBits (Has fs) es → es ≡ fs

-- what the entries tell of the least bit is the byte and the value of the set's least bit
abbrev pub LeastTold : Type 0
LeastTold =
    (es : List Pair) (b : Pair) → IsMask es → least_bit es ≡ Some b
    → (n : ℕ) × IsLeast es n × (b.0 ≡ n / 8) × (b.1 ≡ 2 ^ (n % 8))

abbrev pub LeastOnce : Type 0
LeastOnce = (es : List Pair) (m n : ℕ) → IsLeast es m → IsLeast es n → m ≡ n
