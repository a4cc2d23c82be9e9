-- Laws over the definitions of sums, each in the words of its subject.
use Rattle.std.specs.Prelude.{◌≡◌, ◌≢◌, ◌↔◌, ℕ, ◌+◌, ◌%◌, ◌<◌, ◌≤◌, List, [], true, false, Some}
use Rattle.abi_bits.specs.Pairs.{Pair, max_size}
use Rattle.abi_bits.specs.Mask.{IsMask}
use Rattle.abi_bits.specs.Forbidden.{Forbidden, items_of, head_of, offered}
use Rattle.abi_det.specs.Frame.{Frame, IsLawful}
use Rattle.abi_det.specs.Roles.{larger, smaller, is_place, lies_free, sum_align, union_size}
use Rattle.abi_det.specs.Offers.{Rules, first_of}
use Rattle.abi_det.specs.Niches.{OffersNone, IsFirstBelow, taken}
use Rattle.abi_det.specs.Refusals.{AllRefuse, AreComplete, IsFirstBlocking}
use Rattle.abi_det.specs.Written.{first_blocking, written_placement, written_sum}
use Rattle.abi_det.specs.SoundPlacement.{IsWellFormed, IsSoundPlacement}
use Rattle.abi_det.specs.declared.placements.Kind.TheVariants as kind
use Rattle.abi_det.specs.declared.placements.Placement.{Placement}

-- the union of two lawful frames is no larger than a layout may be
abbrev pub UnionLaw : Type 0
UnionLaw = (ok err : Frame) → IsLawful ok → IsLawful err → union_size ok err ≤ max_size

-- the frame of a sum is lawful
abbrev pub LawfulSumLaw : Type 0
LawfulSumLaw =
    (rules : Rules) (ok err : Frame) → IsLawful ok → IsLawful err
    → union_size ok err + (written_placement rules ok err).front ≤ max_size
    → IsLawful (written_sum rules ok err)

-- and keeps what frames keep
abbrev pub WellFormedSumLaw : Type 0
WellFormedSumLaw =
    (rules : Rules) (ok err : Frame) → IsWellFormed ok → IsWellFormed err
    → union_size ok err + (written_placement rules ok err).front ≤ max_size
    → IsWellFormed (written_sum rules ok err)

-- every placement is sound
abbrev pub SoundPlacementLaw : Type 0
SoundPlacementLaw =
    (rules : Rules) (ok err : Frame) → IsWellFormed ok → IsWellFormed err
    → IsSoundPlacement ok err (written_placement rules ok err)

-- a place is one of eight
abbrev pub PlaceLaw : Type 0
PlaceLaw = (small : Frame) (size k : ℕ) → is_place small size k ≡ true → k < 8

-- the written placement takes the first niche of the first existing place that offers one, and a tag where none does
abbrev pub PlacementLaw : Type 0
PlacementLaw =
    (rules : Rules) (ok err : Frame) → IsMask ok.free → IsMask err.free
    → IsFirstBelow rules (larger ok err) (smaller ok err) (union_size ok err) 8
    (taken (written_placement rules ok err))

-- all existing places have a refusal that holds exactly where the written placement is a tag
abbrev pub RefusedLaw : Type 0
RefusedLaw =
    (rules : Rules) (ok err : Frame) → IsMask ok.free → IsMask err.free
    → ((written_placement rules ok err).kind ≡ kind.Tag) ↔ AllRefuse rules ok err

-- with a tag, and only with one, there are refusals: one that holds for each existing place, by rising place
abbrev pub RefusalsLaw : Type 0
RefusalsLaw =
    (rules : Rules) (ok err : Frame) → IsMask ok.free → IsMask err.free
    → let p : Placement = written_placement rules ok err in
    (p.kind ≡ kind.Tag → AreComplete rules ok err p.refusals)
    × (p.kind ≢ kind.Tag → p.refusals ≡ [])

-- a written refusal names of each pattern the first byte that is not wholly free
abbrev pub BlockingLaw : Type 0
BlockingLaw =
    (free : ℕ → ℕ) (ps : List Pair) → lies_free free ps ≡ false
    → IsFirstBlocking free ps (first_blocking free ps)

-- the head of forbidden values is what their first item offers
abbrev pub HeadLaw : Type 0
HeadLaw =
    (t : Forbidden) (ps : List Pair)
    → head_of t ≡ Some ps → first_of (offered (items_of t)) ≡ Some ps

-- the union is the least multiple of the sum's alignment that both variants fit into
abbrev pub RoundLaw : Type 0
RoundLaw =
    (ok err : Frame) → IsLawful ok → IsLawful err → let u : ℕ = union_size ok err in
    (ok.size ≤ u) × (err.size ≤ u) × (u % sum_align ok err ≡ 0)
    × ((n : ℕ) → ok.size ≤ n → err.size ≤ n → n % sum_align ok err ≡ 0 → u ≤ n)

-- a sum is as large as its union, and one alignment larger exactly where no existing place offers a niche
abbrev pub SizeLaw : Type 0
SizeLaw =
    (rules : Rules) (ok err : Frame) → IsMask ok.free → IsMask err.free
    → let none : Type 0 = OffersNone rules (larger ok err) (smaller ok err) (union_size ok err) 8 in
    (none → (written_sum rules ok err).size ≡ union_size ok err + sum_align ok err)
    × ((none → ⊥) → (written_sum rules ok err).size ≡ union_size ok err)
