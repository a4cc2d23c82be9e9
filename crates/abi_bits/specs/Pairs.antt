-- Lists of pairs: an offset in bytes, and the mask or the value of the byte there.
use Rattle.std.specs.Prelude.{ℕ, ◌+◌, List, [], ◌∷◌, Bool, true, false, ◌&&◌, not, nat_le, nat_lt, ◌==◌, IsTrue, map}
use Rattle.std.specs.List.{list_all}

abbrev pub Pair : Type 0
Pair = ℕ × ℕ

-- the greatest size of anything laid out, in bytes
abbrev pub max_size : ℕ
max_size = 1048576

-- the offsets rise from `least` on, and lie below the greatest size
abbrev pub are_rising : ℕ → List Pair → Bool
are_rising least [] = true
are_rising least (p ∷ ps) = nat_le least p.0 && nat_lt p.0 max_size && are_rising (p.0 + 1) ps

abbrev pub is_empty : List Pair → Bool
is_empty [] = true
is_empty (p ∷ ps) = false

-- a value of some bytes: at least one, each named once, in rising order
abbrev pub is_pattern : List Pair → Bool
is_pattern ps = not (is_empty ps) && are_rising 0 ps

abbrev pub IsPattern : List Pair → Type 0
IsPattern ps = IsTrue (is_pattern ps)

-- each value is one of a byte
abbrev pub are_bytes : List Pair → Bool
are_bytes ps = list_all (λ p. nat_lt p.1 256) ps

-- every named byte of the image has its value
abbrev pub is_matched : List Pair → (ℕ → ℕ) → Bool
is_matched ps image = list_all (λ p. image p.0 == p.1) ps

-- the same pairs, `by` bytes further on
abbrev pub moved_pairs : ℕ → List Pair → List Pair
moved_pairs by ps = map (λ p. (p.0 + by, p.1)) ps

-- every offset lies below n
abbrev pub are_below : ℕ → List Pair → Bool
are_below n ps = list_all (λ p. nat_lt p.0 n) ps

-- the offset of the first pair; the greatest size where there is none
abbrev pub first_offset : List Pair → ℕ
first_offset [] = max_size
first_offset (p ∷ ps) = p.0
