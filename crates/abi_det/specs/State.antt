-- What a test says of an image, which tells the byte at each offset, and what its two writes leave.
use Rattle.std.specs.Prelude.{ℕ, ◌+◌, List, [], ◌∷◌, Bool, true, false, ◌&&◌, not, nat_lt, ◌==◌, bit_and, bit_or, slice_index, slice_set, IsTrue, if◌then◌else◌}
use Rattle.std.specs.Int.{bit_at, bit_not, w8, is_power_of_two}
use Rattle.std.specs.List.{list_any}
use Rattle.abi_bits.specs.Pairs.{Pair, is_matched, are_below}
use Rattle.abi_det.specs.declared.determinant.Test.{Test}
use Rattle.abi_det.specs.declared.determinant.Test.TheVariants as test
use Rattle.abi_det.specs.declared.determinant.Determinant.{Determinant}

-- the image, counted from offset `shift` on
abbrev pub seen_from : ℕ → (ℕ → ℕ) → ℕ → ℕ
seen_from shift image = λ at. image (shift + at)

abbrev pub test_holds : Test → (ℕ → ℕ) → Bool
test_holds test.BitDeterminant image = bit_at (image 0) 0 == 1
test_holds (test.ValueIsErr ps) image = is_matched ps image
test_holds (test.BitIsErr offset mask) image = not (bit_and (image offset) mask == 0)

-- the variant is `Ok` exactly where the test's truth equals `not`
abbrev pub is_state_ok : Determinant → (ℕ → ℕ) → Bool
is_state_ok d image = if d.not then test_holds d.test image else not (test_holds d.test image)

-- bit k of the byte at `at` is one of the test's own
abbrev pub is_tested : Test → ℕ → ℕ → Bool
is_tested test.BitDeterminant at k = if at == 0 then k == 0 else false
is_tested (test.ValueIsErr ps) at k = list_any (λ p. p.0 == at) ps
is_tested (test.BitIsErr offset mask) at k = if at == offset then bit_at mask k == 1 else false

-- the bytes that the test names lie below n, and its mask has one bit
abbrev pub is_covered : Test → ℕ → Bool
is_covered test.BitDeterminant n = nat_lt 0 n
is_covered (test.ValueIsErr ps) n = are_below n ps
is_covered (test.BitIsErr offset mask) n = nat_lt offset n && is_power_of_two mask

abbrev pub IsCovered : Test → ℕ → Type 0
IsCovered t n = IsTrue (is_covered t n)

abbrev pub is_niche : Test → Bool
is_niche test.BitDeterminant = false
is_niche (test.ValueIsErr ps) = true
is_niche (test.BitIsErr offset mask) = true

-- the bytes with each pair's byte written at its offset
abbrev pub put_pairs : List Pair → List ℕ → List ℕ
put_pairs [] xs = xs
put_pairs (p ∷ ps) xs = put_pairs ps (slice_set xs p.0 p.1)

-- the bytes with the bits of the mask set, or cleared, in one of them
abbrev pub put_bits : ℕ → ℕ → Bool → List ℕ → List ℕ
put_bits offset mask sign xs =
    if sign then slice_set xs offset (bit_or (slice_index xs offset) mask)
    else slice_set xs offset (bit_and (slice_index xs offset) (bit_not w8 mask))

-- the bytes after the test's truth was imposed on them: it was made to hold, or its one bit was cleared; a pattern is
-- only ever written
abbrev pub imposed : Test → Bool → List ℕ → List ℕ
imposed test.BitDeterminant sign xs = put_bits 0 1 sign xs
imposed (test.ValueIsErr ps) sign xs = if sign then put_pairs ps xs else xs
imposed (test.BitIsErr offset mask) sign xs = put_bits offset mask sign xs
