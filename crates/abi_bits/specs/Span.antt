-- Bytes that stand in a row from an offset on.
use Rattle.std.specs.Prelude.{◌≡◌, ℕ, bit_or, ◌+◌, ◌-◌, ◌<◌, ◌≤◌, List, [], ◌∷◌, Option, Some, None, nat_le, length, slice_index, if◌then◌else◌}
use Rattle.abi_bits.specs.Pairs.{Pair, max_size}
use Rattle.abi_bits.specs.Mask.{IsMask, entries_below}

-- the byte at an offset, among bytes of which the first stands at `start`; 0 where none stands
abbrev pub byte_in : ℕ → List ℕ → ℕ → ℕ
byte_in start bytes at = if nat_le start at then slice_index bytes (at - start) else 0

-- the byte at an index of a row, with the bits of another row that begins at the index `from` of it
abbrev pub row_with : ℕ → List ℕ → List ℕ → ℕ → ℕ
row_with from other bytes at = bit_or (slice_index bytes at) (byte_in from other at)

-- the row has at each index the byte that `byte` tells
abbrev pub Tells : (ℕ → ℕ) → List ℕ → Type 0
Tells byte bytes = (at : ℕ) → slice_index bytes at ≡ byte at

-- the two tell the same bytes from `from` on
abbrev pub AgreeFrom : ℕ → (ℕ → ℕ) → (ℕ → ℕ) → Type 0
AgreeFrom from f g = (at : ℕ) → from ≤ at → f at ≡ g at

-- the set that these bytes tell
abbrev pub entries_in : ℕ → List ℕ → List Pair
entries_in start bytes = entries_below (byte_in start bytes) (start + length bytes)

-- bytes from `start` on that lie below the greatest size, and of which the first and the last have a bit
pub record IsSpan (start : ℕ) (bytes : List ℕ) : Type 0 where
  pub within : start + length bytes ≤ max_size
  pub mask : IsMask (entries_in start bytes)
  pub first : 0 < length bytes → 0 < slice_index bytes 0
  pub last : 0 < length bytes → 0 < slice_index bytes (length bytes - 1)

-- the offset from which these bytes stand, where one is put at `at`: as long as there are none, that one is the first
abbrev pub start_with : ℕ → List ℕ → ℕ → ℕ
start_with start [] at = at
start_with start (b ∷ bs) at = start

-- the first of the bytes, with its offset
abbrev pub first_in : ℕ → List ℕ → Option Pair
first_in start [] = None
first_in start (b ∷ bs) = Some (start, b)
