-- The niches that a union offers, each by its place, its kind and its number, and which of two comes first.
use Rattle.std.specs.Prelude.{◌≡◌, ◌≢◌, ◌⊎◌, ℕ, ◌*◌, ◌/◌, ◌%◌, ◌^◌, ◌<◌, List, [], true, Option, Some, None, map, length, slice_index_or}
use Rattle.std.specs.Int.{bit_at}
use Rattle.abi_bits.specs.Pairs.{Pair, moved_pairs}
use Rattle.abi_bits.specs.Forbidden.{offered}
use Rattle.abi_det.specs.Frame.{Frame, forbids}
use Rattle.abi_det.specs.Roles.{union_byte, lies_free, spare_byte, is_place}
use Rattle.abi_det.specs.Offers.{Rules, Niche, leading_pattern}
use Rattle.abi_det.specs.declared.placements.Placement.{Placement}
use Rattle.abi_det.specs.declared.placements.Kind.{Kind}
use Rattle.abi_det.specs.declared.placements.Kind.TheVariants as kind
use Rattle.abi_det.specs.declared.determinant.Test.{Test}
use Rattle.abi_det.specs.declared.determinant.Test.TheVariants as test

-- pattern number n of the list lies in wholly free bytes, and t tests it
abbrev pub IsFreePattern : (ℕ → ℕ) → List (List Pair) → ℕ → Test → Type 0
IsFreePattern free pss n t =
    (n < length pss) × (lies_free free (slice_index_or pss n []) ≡ true)
    × (t ≡ test.ValueIsErr (slice_index_or pss n []))

-- bit number n below the size is one of the bits told, and t tests it
abbrev pub IsFreeBit : (ℕ → ℕ) → ℕ → ℕ → Test → Type 0
IsFreeBit bits size n t =
    (n < 8 * size) × (bit_at (bits (n / 8)) (n % 8) ≡ 1) × (t ≡ test.BitIsErr (n / 8) (2 ^ (n % 8)))

-- what an empty smaller variant takes of the larger is one pattern
abbrev pub IsLeading : Option (List Pair) → ℕ → Test → Type 0
IsLeading None n t = ⊥
IsLeading (Some ps) n t = (n ≡ 0) × (t ≡ test.ValueIsErr ps)

-- place k offers niche number n of the kind, which t tests
abbrev pub IsNiche : Rules → Frame → Frame → ℕ → ℕ → Kind → ℕ → Test → Type 0
IsNiche rules large small size k kind.SmallerPattern n t =
    (small.size ≢ 0)
    × IsFreePattern (union_byte large 0 size)
    (map (moved_pairs (k * small.align)) (offered (forbids small))) n t
IsNiche rules large small size k kind.LargerPattern n t =
    ((small.size ≡ 0) × IsLeading (leading_pattern rules large) n t)
    ⊎ ((small.size ≢ 0)
    × IsFreePattern (union_byte small (k * small.align) size) (offered (forbids large)) n t)
IsNiche rules large small size k kind.SharedBit n t =
    IsFreeBit (spare_byte large small (k * small.align) size) size n t
IsNiche rules large small size k kind.Tag n t = ⊥

abbrev pub rank : Kind → ℕ
rank kind.SmallerPattern = 1
rank kind.LargerPattern = 2
rank kind.SharedBit = 3
rank kind.Tag = 4

-- a niche of an earlier kind, or one of the same kind with a lesser number
abbrev pub IsSooner : Kind → ℕ → Kind → ℕ → Type 0
IsSooner a m b n = (rank a < rank b) ⊎ ((a ≡ b) × (m < n))

-- the first niche of place k, or none
abbrev pub IsFirstAt : Rules → Frame → Frame → ℕ → ℕ → Option Niche → Type 0
IsFirstAt rules large small size k None =
    (a : Kind) (m : ℕ) (t : Test) → IsNiche rules large small size k a m t → ⊥
IsFirstAt rules large small size k (Some niche) =
    (n : ℕ) × IsNiche rules large small size k niche.kind n niche.test
    × ((a : Kind) (m : ℕ) (t : Test) → IsNiche rules large small size k a m t
    → IsSooner a m niche.kind n → ⊥)

-- no existing place below `places` offers anything
abbrev pub OffersNone : Rules → Frame → Frame → ℕ → ℕ → Type 0
OffersNone rules large small size places =
    (k : ℕ) → k < places → is_place small size k ≡ true → (a : Kind) (m : ℕ) (t : Test)
    → IsNiche rules large small size k a m t → ⊥

-- the first niche of the first existing place below `places` that offers one, or none
abbrev pub IsFirstBelow : Rules → Frame → Frame → ℕ → ℕ → Option (ℕ × Niche) → Type 0
IsFirstBelow rules large small size places None = OffersNone rules large small size places
IsFirstBelow rules large small size places (Some found) =
    (found.0 < places) × (is_place small size found.0 ≡ true)
    × IsFirstAt rules large small size found.0 (Some found.1)
    × OffersNone rules large small size found.0

abbrev pub taken_by : Kind → ℕ → Test → Option (ℕ × Niche)
taken_by kind.SmallerPattern k t = Some (k, record { kind = kind.SmallerPattern; test = t })
taken_by kind.LargerPattern k t = Some (k, record { kind = kind.LargerPattern; test = t })
taken_by kind.SharedBit k t = Some (k, record { kind = kind.SharedBit; test = t })
taken_by kind.Tag k t = None

-- the place and the niche that a placement takes; none with a tag
abbrev pub taken : Placement → Option (ℕ × Niche)
taken p = taken_by p.kind p.place p.determinant.test
