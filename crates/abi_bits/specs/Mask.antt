-- Masks: sets of bits. Bit k of the byte at offset i has the number 8 * i + k.
use Rattle.std.specs.Prelude.{◌≡◌, ◌↔◌, ◌⊎◌, ℕ, zero, suc, ◌-◌, ◌*◌, ◌/◌, ◌%◌, ◌^◌, ◌<◌, ◌≤◌, List, [], ◌∷◌, ◌++◌, Bool, ◌&&◌, nat_le, nat_lt, ◌==◌, IsTrue, Option, Some, None, bit_or, bit_and, bit_xor, length, slice_index, if◌then◌else◌}
use Rattle.std.specs.List.{list_all}
use Rattle.std.specs.Int.{bit_at, trailing_zeros, w8}
use Rattle.abi_bits.specs.Pairs.{Pair, are_rising}

-- the bits at a byte
abbrev pub mask_at : List Pair → ℕ → ℕ
mask_at [] at = 0
mask_at (e ∷ es) at = bit_or (if e.0 == at then e.1 else 0) (mask_at es at)

-- bit number n is in the set
abbrev pub Has : List Pair → ℕ → Type 0
Has es n = bit_at (mask_at es (n / 8)) (n % 8) ≡ 1

-- each mask has a bit of its byte
abbrev pub have_bits : List Pair → Bool
have_bits es = list_all (λ e. nat_lt 0 e.1 && nat_lt e.1 256) es

-- entries: offsets rising and below the greatest size, each with a mask of some bits of its byte
abbrev pub is_mask : List Pair → Bool
is_mask es = are_rising 0 es && have_bits es

abbrev pub IsMask : List Pair → Type 0
IsMask es = IsTrue (is_mask es)

-- the first byte from `from` on that has a bit; nothing where none has
abbrev pub IsNext : List Pair → ℕ → Option Pair → Type 0
IsNext es from None = (at : ℕ) → from ≤ at → mask_at es at ≡ 0
IsNext es from (Some e) =
    (from ≤ e.0) × (0 < e.1) × (mask_at es e.0 ≡ e.1)
    × ((at : ℕ) → from ≤ at → at < e.0 → mask_at es at ≡ 0)

-- the sets have the same bytes from `from` on
abbrev pub SameFrom : ℕ → List Pair → List Pair → Type 0
SameFrom from es fs = (at : ℕ) → from ≤ at → mask_at es at ≡ mask_at fs at

-- the set has at each byte the bits that `bits` tells
abbrev pub HasBytes : (ℕ → ℕ) → List Pair → Type 0
HasBytes bits es = (at : ℕ) → mask_at es at ≡ bits at

-- the set has the bits of which `IsBit` tells, and no other
abbrev pub HasBits : (ℕ → Type 0) → List Pair → Type 0
HasBits IsBit es = (n : ℕ) → Has es n ↔ IsBit n

-- the bytes tell the bits of the first bytes of the set, one for each
abbrev pub AreFirstBytes : List Pair → List ℕ → Type 0
AreFirstBytes es bytes = (at : ℕ) → at < length bytes → slice_index bytes at ≡ mask_at es at

-- the entry of one byte; none where the byte has no bit
abbrev pub entry : ℕ → ℕ → List Pair
entry at mask = if mask == 0 then [] else (at, mask) ∷ []

-- the entries of the set whose byte at each offset below n has the bits that `bits` tells
unfoldable pub entries_below : (ℕ → ℕ) → ℕ → List Pair
entries_below bits zero = []
entries_below bits (suc n) = entries_below bits n ++ entry n (bits n)

-- the byte of the set moved `by` bytes further on
abbrev pub byte_moved : ℕ → List Pair → ℕ → ℕ
byte_moved by es at = if nat_le by at then mask_at es (at - by) else 0

-- the byte of the set together with the bits that `bits` tells
abbrev pub byte_or : (ℕ → ℕ) → List Pair → ℕ → ℕ
byte_or bits es at = bit_or (mask_at es at) (bits at)

-- bit number n is in the set, or `IsBit` tells of it
abbrev pub HasEither : List Pair → (ℕ → Type 0) → ℕ → Type 0
HasEither es IsBit n = Has es n ⊎ IsBit n

-- the bits of a byte that both sets have
abbrev pub byte_within : List Pair → List Pair → ℕ → ℕ
byte_within fs es at = bit_and (mask_at es at) (mask_at fs at)

-- bit number n is in the set moved `by` bytes further on
abbrev pub HasMoved : ℕ → List Pair → ℕ → Type 0
HasMoved by es n = (8 * by ≤ n) × Has es (n - 8 * by)

-- the byte of the set together with that of another moved `by` bytes further on
abbrev pub byte_or_moved : ℕ → List Pair → List Pair → ℕ → ℕ
byte_or_moved by fs es = byte_or (byte_moved by fs) es

-- all bits of the bytes from `from` up to `to`, none elsewhere
abbrev pub full_between : ℕ → ℕ → ℕ → ℕ
full_between from to at = if nat_le from at && nat_lt at to then 255 else 0

-- every named byte is wholly in the set
abbrev pub lies_free : List Pair → List Pair → Bool
lies_free es ps = list_all (λ p. mask_at es p.0 == 255) ps

-- the value in its byte of the lowest bit of a mask that is not 0
abbrev pub lowest : ℕ → ℕ
lowest m = 2 ^ trailing_zeros w8 m

-- the least bit of the set: the offset of its byte, and its value there
abbrev pub least_bit : List Pair → Option Pair
least_bit [] = None
least_bit (e ∷ es) = Some (e.0, lowest e.1)

-- what a bit is at each byte
abbrev pub bit_byte : Option Pair → ℕ → ℕ
bit_byte None at = 0
bit_byte (Some b) at = if b.0 == at then b.1 else 0

-- the byte of the set without the set's least bit
abbrev pub byte_after_least : List Pair → ℕ → ℕ
byte_after_least es at = bit_xor (mask_at es at) (bit_byte (least_bit es) at)

-- a bit of the set that no other bit of it comes before
pub record IsLeast (es : List Pair) (n : ℕ) : Type 0 where
  pub has : Has es n
  pub none_below : (m : ℕ) → m < n → Has es m → ⊥
