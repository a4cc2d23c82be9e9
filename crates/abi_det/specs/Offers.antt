-- What a place of the smaller variant offers as a niche, by kind.
use Rattle.std.specs.Prelude.{ℕ, zero, suc, ◌*◌, List, [], ◌∷◌, ◌==◌, Option, Some, None, map, find, if◌then◌else◌}
use Rattle.abi_bits.specs.Pairs.{Pair, moved_pairs}
use Rattle.abi_bits.specs.Mask.{entries_below, least_bit}
use Rattle.abi_bits.specs.Forbidden.{offered}
use Rattle.abi_det.specs.Frame.{Frame, forbids, head}
use Rattle.abi_det.specs.Roles.{union_byte, lies_free, spare_byte, is_place}
use Rattle.abi_det.specs.declared.placements.Kind.{Kind}
use Rattle.abi_det.specs.declared.placements.Kind.TheVariants as kind
use Rattle.abi_det.specs.declared.determinant.Test.{Test}
use Rattle.abi_det.specs.declared.determinant.Test.TheVariants as test
use Rattle.abi_det.specs.declared.rules.Rules.{Rules as DeclaredRules}
use Rattle.abi_det.specs.declared.rules.Rules.TheVariants as version

-- the rules of the layout, by version, under one name for the crates above
abbrev pub Rules : Type 0
Rules = DeclaredRules

abbrev pub One : Rules
One = version.One

abbrev pub Two : Rules
Two = version.Two

-- a niche, and the test that finds it
pub record Niche : Type 0 where
  pub kind : Kind
  pub test : Test

abbrev pub or_else : {A : Type 0} → Option A → Option A → Option A
or_else (Some x) o = Some x
or_else None o = o

abbrev pub first_of : {A : Type 0} → List A → Option A
first_of [] = None
first_of (x ∷ xs) = Some x

abbrev pub by_pattern : Kind → Option (List Pair) → Option Niche
by_pattern k None = None
by_pattern k (Some ps) = Some (record { kind = k; test = test.ValueIsErr ps })

abbrev pub by_bit : Option Pair → Option Niche
by_bit None = None
by_bit (Some e) = Some (record { kind = kind.SharedBit; test = test.BitIsErr e.0 e.1 })

-- the first of the patterns, moved, that lies in wholly free bytes
abbrev pub first_lying : (ℕ → ℕ) → ℕ → List (List Pair) → Option (List Pair)
first_lying free by pss = find (lies_free free) (map (moved_pairs by) pss)

-- the first pattern of the smaller variant, moved to its place, that lies in bytes that the larger leaves wholly free
abbrev pub smaller_pattern : Frame → Frame → ℕ → ℕ → Option (List Pair)
smaller_pattern large small size shift =
    first_lying (union_byte large 0 size) shift (offered (forbids small))

-- the first pattern of the larger variant that lies in bytes that the smaller leaves wholly free
abbrev pub larger_pattern : Frame → Frame → ℕ → ℕ → Option (List Pair)
larger_pattern large small size shift =
    find (lies_free (union_byte small shift size)) (offered (forbids large))

-- what an empty smaller variant takes of the larger's patterns: the head, or under rules two the first
abbrev pub leading_pattern : Rules → Frame → Option (List Pair)
leading_pattern version.One large = head large
leading_pattern version.Two large = first_of (offered (forbids large))

-- the least bit that both leave free
abbrev pub shared_bit : Frame → Frame → ℕ → ℕ → Option Pair
shared_bit large small size shift =
    least_bit (entries_below (spare_byte large small shift size) size)

-- what place 0 of an empty smaller variant offers
abbrev pub offer_to_empty : Rules → Frame → Frame → ℕ → Option Niche
offer_to_empty rules large small size =
    or_else (by_pattern kind.LargerPattern (leading_pattern rules large))
    (by_bit (shared_bit large small size 0))

-- what a place that starts at `shift` offers besides the smaller variant's patterns
abbrev pub larger_or_bit : Frame → Frame → ℕ → ℕ → Option Niche
larger_or_bit large small size shift =
    or_else (by_pattern kind.LargerPattern (larger_pattern large small size shift))
    (by_bit (shared_bit large small size shift))

-- what a place that starts at `shift` offers where the smaller variant is not empty
abbrev pub offer_beside : Frame → Frame → ℕ → ℕ → Option Niche
offer_beside large small size shift =
    or_else (by_pattern kind.SmallerPattern (smaller_pattern large small size shift))
    (larger_or_bit large small size shift)

-- what place k offers: of its kinds the least, and of that kind the first pattern or the least bit
unfoldable pub offer_at : Rules → Frame → Frame → ℕ → ℕ → Option Niche
offer_at rules large small size k =
    if small.size == 0
    then offer_to_empty rules large small size
    else offer_beside large small size (k * small.align)

abbrev pub numbered : ℕ → Option Niche → Option (ℕ × Niche)
numbered k None = None
numbered k (Some niche) = Some (k, niche)

-- the least existing place below `places` that offers, and what it offers
unfoldable pub first_offer : Rules → Frame → Frame → ℕ → ℕ → Option (ℕ × Niche)
first_offer rules large small size zero = None
first_offer rules large small size (suc k) =
    or_else (first_offer rules large small size k)
    (if is_place small size k then numbered k (offer_at rules large small size k) else None)
