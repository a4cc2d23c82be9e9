-- Bytes that are taken as they stand, but for free bits.
use Rattle.std.specs.Prelude.{ℕ, List, Bool, ◌&&◌, not, nat_lt, ◌==◌, bit_and, length, slice_index}
use Rattle.std.specs.Int.{bit_not, w8}
use Rattle.std.specs.List.{list_all, list_any}
use Rattle.abi_bits.specs.Pairs.{Pair}
use Rattle.abi_bits.specs.Mask.{mask_at}
use Rattle.abi_bits.specs.Forbidden.{Item, is_match}
use Rattle.abi_pack.specs.ByteMap.{ByteMap, firsts, bytes_of}
use Rattle.abi_pack.specs.Plain.{Plain, bytes}

-- n bytes
abbrev pub are_bytes_of : ℕ → List ℕ → Bool
are_bytes_of n xs = length xs == n && list_all (λ x. nat_lt x 256) xs

-- each of the free bits is 0
abbrev pub are_clear : List Pair → List ℕ → Bool
are_clear free xs = list_all (λ e. bit_and (slice_index xs e.0) e.1 == 0) free

-- none of the items is matched
abbrev pub match_none : List Item → ByteMap → Bool
match_none its f = not (list_any (is_match f) its)

-- n bytes with every free bit 0, which match no forbidden item
abbrev pub are_raw : ℕ → List Pair → List Item → List ℕ → Bool
are_raw n free its xs = are_bytes_of n xs && are_clear free xs && match_none its (bytes_of xs)

-- the first n bytes, with 0 in their free bits
abbrev pub cleared : List Pair → ℕ → ByteMap → List ℕ
cleared free n f = firsts n (λ i. bit_and (f i) (bit_not w8 (mask_at free i)))

-- the value that they are
abbrev pub bytes_shown : List Pair → ℕ → ByteMap → Plain
bytes_shown free n f = bytes (cleared free n f)
