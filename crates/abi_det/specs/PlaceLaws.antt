-- Laws of places and placements in other words: of variants, positions, bytes and bits, not of the steps of a search.
use Rattle.std.specs.Prelude.{◌≡◌, ◌↔◌, ℕ, ◌+◌, ◌*◌, ◌/◌, ◌%◌, ◌^◌, ◌<◌, ◌≤◌, max, true, false, length, slice_index_or}
use Rattle.std.specs.Int.{bit_at}
use Rattle.abi_bits.specs.Mask.{mask_at, IsMask}
use Rattle.abi_det.specs.Frame.{Frame, IsLawful}
use Rattle.abi_det.specs.Roles.{smaller, union_size, is_place}
use Rattle.abi_det.specs.Offers.{Rules}
use Rattle.abi_det.specs.Written.{written_placement}
use Rattle.abi_det.specs.State.{is_state_ok, is_tested}
use Rattle.abi_det.specs.declared.placements.Kind.TheVariants as kind
use Rattle.abi_det.specs.declared.placements.Placement.{Placement}
use Rattle.abi_det.specs.declared.determinant.Test.{Test}
use Rattle.abi_det.specs.declared.determinant.Test.TheVariants as test

-- the one where `Ok` is the larger variant, as it is where the sizes are equal, and the other where `Err` is
abbrev pub BySize : Frame → Frame → Type 0 → Type 0 → Type 0
BySize ok err a b = (err.size ≤ ok.size → a) × (ok.size < err.size → b)

-- the union of two variants: the least multiple of the greater alignment that both fit into
pub record IsUnion (ok err : Frame) (size : ℕ) : Type 0 where
  pub whole : size % max ok.align err.align ≡ 0
  pub ok_inside : ok.size ≤ size
  pub err_inside : err.size ≤ size
  pub least : (n : ℕ) → n % max ok.align err.align ≡ 0 → ok.size ≤ n → err.size ≤ n → size ≤ n

-- a variant fits at a position: an aligned one, of the first eight, from which its last byte is in the union; an empty
-- one at the first alone
pub record FitsAt (variant : Frame) (size start : ℕ) : Type 0 where
  pub aligned : start % variant.align ≡ 0
  pub early : start ≤ 7 * variant.align
  pub inside : start + variant.size ≤ size
  pub empty : variant.size ≡ 0 → start ≡ 0

-- the search knows a place of the smaller variant that starts there
abbrev pub IsKnown : Frame → Frame → ℕ → Type 0
IsKnown ok err start =
    (k : ℕ) × (start ≡ k * (smaller ok err).align)
    × (is_place (smaller ok err) (union_size ok err) k ≡ true)

-- the positions at which the smaller variant fits are the places that the search knows
abbrev pub PositionsLaw : Type 0
PositionsLaw =
    (ok err : Frame) (size start : ℕ) → IsLawful ok → IsLawful err → IsUnion ok err size
    → BySize ok err (FitsAt err size start ↔ IsKnown ok err start)
    (FitsAt ok size start ↔ IsKnown ok err start)

-- of the image the larger variant is told
abbrev pub TellsLarger : Frame → Frame → Placement → (ℕ → ℕ) → Type 0
TellsLarger ok err p image =
    BySize ok err (is_state_ok p.determinant image ≡ true) (is_state_ok p.determinant image ≡ false)

-- of the image the smaller variant is told
abbrev pub TellsSmaller : Frame → Frame → Placement → (ℕ → ℕ) → Type 0
TellsSmaller ok err p image =
    BySize ok err (is_state_ok p.determinant image ≡ false) (is_state_ok p.determinant image ≡ true)

-- with a tag, the last binary digit of the first byte tells the variant: 1 the smaller, 0 the larger
abbrev pub TagMeaningLaw : Type 0
TagMeaningLaw =
    (rules : Rules) (ok err : Frame) (image : ℕ → ℕ) → IsMask ok.free → IsMask err.free
    → let p : Placement = written_placement rules ok err in p.kind ≡ kind.Tag
    → (image 0 % 2 ≡ 1 → TellsSmaller ok err p image)
    × (image 0 % 2 ≡ 0 → TellsLarger ok err p image)

-- a tag takes bit number 0 of new bytes in front of both variants, as many as the greater alignment, and leaves free
-- the other bits in front, and no more
pub record TakesFirstBit (ok err : Frame) (p : Placement) : Type 0 where
  pub front : p.front ≡ max ok.align err.align
  pub room : 0 < p.front
  pub ok_behind : p.ok_shift ≡ 0
  pub err_behind : p.err_shift ≡ 0
  pub taken : (at k : ℕ) → k < 8 → (is_tested p.determinant.test at k ≡ true) ↔ (8 * at + k ≡ 0)
  pub left : (at k : ℕ) → k < 8 → (bit_at (mask_at p.exported at) k ≡ 1)
      ↔ ((0 < 8 * at + k) × (at < p.front))

abbrev pub TagPlaceLaw : Type 0
TagPlaceLaw =
    (rules : Rules) (ok err : Frame) → IsLawful ok → IsLawful err → IsMask ok.free
    → IsMask err.free → let p : Placement = written_placement rules ok err in
    p.kind ≡ kind.Tag → TakesFirstBit ok err p

-- the image has the niche's value: each byte of a pattern, or a 1 in the bit
abbrev pub HasValue : Test → (ℕ → ℕ) → Type 0
HasValue test.BitDeterminant image = ⊥
HasValue (test.ValueIsErr ps) image =
    (n : ℕ) → n < length ps
    → image (slice_index_or ps n (0, 0)).0 ≡ (slice_index_or ps n (0, 0)).1
HasValue (test.BitIsErr offset mask) image =
    (b : ℕ) × (mask ≡ 2 ^ b) × (image offset / 2 ^ b % 2 ≡ 1)

-- the one where the niche's value is in the image, and the other where it is not
abbrev pub ByValue : Placement → (ℕ → ℕ) → Type 0 → Type 0 → Type 0
ByValue p image a b =
    (HasValue p.determinant.test image → a) × ((HasValue p.determinant.test image → ⊥) → b)

-- a value that the smaller variant never has tells the larger, and any other value the smaller; the other niches tell
-- the reverse
abbrev pub NicheMeaningLaw : Type 0
NicheMeaningLaw =
    (rules : Rules) (ok err : Frame) (image : ℕ → ℕ) → IsMask ok.free → IsMask err.free
    → let p : Placement = written_placement rules ok err in
    let large : Type 0 = TellsLarger ok err p image in
    let small : Type 0 = TellsSmaller ok err p image in
    (p.kind ≡ kind.SmallerPattern → ByValue p image large small)
    × (p.kind ≡ kind.LargerPattern → ByValue p image small large)
    × (p.kind ≡ kind.SharedBit → ByValue p image small large)
