-- When a placement is sound: each variant can stand at its place, whatever the bytes beside it hold, and the test tells
-- which one does.
use Rattle.std.specs.Prelude.{◌≡◌, ℕ, ◌+◌, ◌-◌, ◌^◌, ◌<◌, ◌≤◌, List, Bool, true, false, not, nat_lt, ◌==◌, IsTrue, if◌then◌else◌}
use Rattle.std.specs.Int.{bit_at}
use Rattle.std.specs.List.{list_all, list_any}
use Rattle.abi_bits.specs.Pairs.{Pair, is_pattern, IsPattern, are_below}
pub use Rattle.abi_bits.specs.Pairs.{are_bytes}
use Rattle.abi_bits.specs.Mask.{mask_at, IsMask}
use Rattle.abi_bits.specs.Forbidden.{is_match, offered}
use Rattle.abi_det.specs.Frame.{Frame, IsLawful, forbids}
use Rattle.abi_det.specs.Roles.{union_size}
use Rattle.abi_det.specs.State.{test_holds, is_tested, seen_from}
use Rattle.abi_det.specs.declared.placements.Placement.{Placement}
use Rattle.abi_det.specs.declared.determinant.Test.{Test}
use Rattle.abi_det.specs.declared.determinant.Test.TheVariants as test

-- what every layout's frame keeps: the rule of lawful layouts, entries in order, and patterns in order and of bytes
pub record IsWellFormed (f : Frame) : Type 0 where
  pub lawful : IsLawful f
  pub mask : IsMask f.free
  pub patterns : IsTrue (list_all is_pattern (offered (forbids f)))
  pub bytes : IsTrue (list_all are_bytes (offered (forbids f)))

-- bit k of the byte at `at` is free for a variant at `shift`: its own free bits, and all bits beside it
abbrev pub is_free_at : Frame → ℕ → ℕ → ℕ → Bool
is_free_at side shift at k =
    if nat_lt at shift then true
    else (if nat_lt at (shift + side.size) then bit_at (mask_at side.free (at - shift)) k == 1
    else true)

-- the test is written for a variant where its truth is to be `sign`; a pattern that must be absent is not
abbrev pub is_imposed : Test → Bool → Bool
is_imposed test.BitDeterminant sign = true
is_imposed (test.ValueIsErr ps) sign = sign
is_imposed (test.BitIsErr offset mask) sign = true

-- the test lies in a sum of `size` bytes: a pattern, or one bit
abbrev pub IsTest : Test → ℕ → Type 0
IsTest test.BitDeterminant size = 0 < size
IsTest (test.ValueIsErr ps) size = IsPattern ps × IsTrue (are_below size ps) × IsTrue (are_bytes ps)
IsTest (test.BitIsErr offset mask) size = (offset < size) × ((b : ℕ) × (b < 8) × (mask ≡ 2 ^ b))

-- a variant at `shift` from the sum's first byte is told by the test, whose truth is to be `sign` for it
pub record IsSide (tested : Test) (exported : List Pair) (size : ℕ)
    (side : Frame) (shift : ℕ) (sign : Bool) : Type 0 where
  pub inside : shift + side.size ≤ size
  -- where the test is written, it takes only bits that are free for the variant
  pub imposed : is_imposed tested sign ≡ true → (at k : ℕ) → k < 8 → is_tested tested at k ≡ true
      → is_free_at side shift at k ≡ true
  -- where it is not, the variant never has what it tests
  pub forbids : is_imposed tested sign ≡ false → (image : ℕ → ℕ) → test_holds tested image ≡ true
      → list_any (is_match (seen_from shift image)) (forbids side) ≡ true
  -- the exported bits are free for the variant
  pub exports : (at k : ℕ) → k < 8 → bit_at (mask_at exported at) k ≡ 1
      → is_free_at side shift at k ≡ true

-- the placement tells both variants of a sum
pub record IsSoundPlacement (ok err : Frame) (p : Placement) : Type 0 where
  pub ok_side : IsSide p.determinant.test p.exported (union_size ok err + p.front) ok
      (p.front + p.ok_shift) p.determinant.«not»
  pub err_side : IsSide p.determinant.test p.exported (union_size ok err + p.front) err
      (p.front + p.err_shift) (not p.determinant.«not»)
  pub tested : IsTest p.determinant.test (union_size ok err + p.front)
  -- no bit of the determinant is exported
  pub kept : (at k : ℕ) → k < 8 → bit_at (mask_at p.exported at) k ≡ 1
      → is_tested p.determinant.test at k ≡ false
