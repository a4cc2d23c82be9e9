-- What the search among the places of a sum goes by.
use Rattle.std.specs.Prelude.{◌≡◌, ℕ, ◌-◌, ◌<◌, ◌≤◌, List, [], ◌∷◌, Option, Some, None, map, option_map, if◌then◌else◌}
use Rattle.abi_bits.specs.Pairs.{Pair, moved_pairs}
use Rattle.abi_bits.specs.Mask.{SameFrom}
use Rattle.abi_det.specs.Frame.{Frame}
use Rattle.abi_det.specs.Offers.{Niche}
use Rattle.abi_det.specs.Roles.{union_byte, spare_byte}
use Rattle.abi_det.specs.Written.{is_blocking, exported}
use Rattle.abi_det.specs.declared.determinant.Test.{Test}
use Rattle.abi_det.specs.declared.determinant.Test.TheVariants as test
use Rattle.abi_det.specs.declared.offers.Offer.{Offer}
use Rattle.abi_det.specs.declared.placed_variant.PlacedVariant.{PlacedVariant}
use Rattle.abi_det.specs.declared.roles.Roles.{Roles}
use Rattle.abi_det.specs.declared.spare.OwnBits.{OwnBits}

abbrev pub niche_of : Offer → Niche
niche_of o = record { kind = o.kind; test = o.test }

-- the code's answer is this niche, or none
abbrev pub IsOffer : Option Niche → Option Offer → Type 0
IsOffer niche o = option_map niche_of o ≡ niche

-- the same with its place
abbrev pub IsFirst : Option (ℕ × Niche) → Option (ℕ × Offer) → Type 0
IsFirst niche o = option_map (λ f. (f.0, niche_of f.1)) o ≡ niche

-- what a definition says of the two variants in their union
abbrev pub of_roles : {A : Type 0} → (Frame → Frame → ℕ → A) → Roles → A
of_roles definition r = definition r.large r.small r.size

-- the bits of a byte of the union that the variant leaves free
abbrev pub free_of : PlacedVariant → ℕ → ℕ
free_of v = union_byte v.variant.now v.shift v.size

-- the bits of a byte of the union that both variants leave free, the smaller standing at `shift`
abbrev pub spare_of : Roles → ℕ → ℕ → ℕ
spare_of r shift = spare_byte r.large r.small shift r.size

-- what is exported of these bits
abbrev pub exported_of : Roles → ℕ → Test → List Pair
exported_of r shift t = exported t (spare_of r shift) r.size

-- the first byte from `from` on and below n that has a bit; nothing where none has
abbrev pub IsNextBelow : (ℕ → ℕ) → ℕ → ℕ → Option Pair → Type 0
IsNextBelow bits n from None = (at : ℕ) → from ≤ at → at < n → bits at ≡ 0
IsNextBelow bits n from (Some e) =
    (from ≤ e.0) × (e.0 < n) × (0 < e.1) × (bits e.0 ≡ e.1)
    × ((at : ℕ) → from ≤ at → at < e.0 → bits at ≡ 0)

-- what is left of both walks tells the variants' own free bits from the byte at `from` of the union on
abbrev pub AreLeft : Frame → Frame → ℕ → OwnBits → ℕ → Type 0
AreLeft large small shift own from =
    SameFrom from large.free own.large × SameFrom (from - shift) small.free own.small

-- the same of the two variants in their union
abbrev pub AreLeftOf : Roles → ℕ → OwnBits → ℕ → Type 0
AreLeftOf r shift own from = AreLeft r.large r.small shift own from

-- a bit that is tested stands in a byte that has bits
abbrev pub IsSpared : (ℕ → ℕ) → Test → Type 0
IsSpared bits test.BitDeterminant = Unit {0}
IsSpared bits (test.ValueIsErr ps) = Unit {0}
IsSpared bits (test.BitIsErr offset mask) = 0 < bits offset

-- what is left of the offsets after one blocking byte for each pattern; nothing where one is missing or does not block
abbrev pub after_blocking : (ℕ → ℕ) → List (List Pair) → List ℕ → Option (List ℕ)
after_blocking free [] ats = Some ats
after_blocking free (ps ∷ pss) [] = None
after_blocking free (ps ∷ pss) (at ∷ ats) =
    if is_blocking free ps at then after_blocking free pss ats else None

-- the same of patterns that are moved
abbrev pub after_all : (ℕ → ℕ) → ℕ → List (List Pair) → List ℕ → Option (List ℕ)
after_all free by pss ats = after_blocking free (map (moved_pairs by) pss) ats
