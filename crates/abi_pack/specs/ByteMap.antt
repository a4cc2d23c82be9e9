-- Bytes as a function that tells the byte at each offset. A bit is a pair: a byte's offset, and the bit's number in it.
use Rattle.std.specs.Prelude.{ℕ, zero, suc, ◌<◌, List, [], ◌∷◌, ◌++◌, Bool, ◌==◌, slice_index}
use Rattle.std.specs.Int.{bit_at}
use Rattle.abi_bits.specs.Pairs.{Pair}
use Rattle.abi_bits.specs.Mask.{mask_at}
pub use Rattle.abi_det.specs.State.{seen_from}

abbrev pub ByteMap : Type 0
ByteMap = ℕ → ℕ

abbrev pub bytes_of : List ℕ → ByteMap
bytes_of xs = λ i. slice_index xs i

-- the bytes from `at` on
abbrev pub seen_in : List ℕ → ℕ → ByteMap
seen_in xs at = seen_from at (slice_index xs)

abbrev pub AreBytes : ByteMap → Type 0
AreBytes f = (i : ℕ) → f i < 256

-- the first n bytes
abbrev pub firsts : ℕ → ByteMap → List ℕ
firsts zero f = []
firsts (suc n) f = firsts n f ++ f n ∷ []

-- bit k of byte i is in the set of these entries
abbrev pub has : List Pair → ℕ → ℕ → Bool
has entries i k = bit_at (mask_at entries i) k == 1
