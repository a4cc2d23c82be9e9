-- The written placement of a sum, its refusals, and its frame.
use Rattle.std.specs.Prelude.{◌≡◌, ℕ, zero, suc, ◌+◌, ◌*◌, List, [], ◌∷◌, ◌++◌, Bool, true, false, ◌&&◌, ◌||◌, not, ◌==◌, Option, Some, None, map, bit_xor, is_none, if◌then◌else◌}
use Rattle.std.specs.List.{list_any}
use Rattle.abi_bits.specs.Pairs.{Pair, moved_pairs}
use Rattle.abi_bits.specs.Mask.{entries_below}
use Rattle.abi_bits.specs.Forbidden.{Item, Forbidden, nothing, items_of, head_of, offered}
use Rattle.abi_bits.specs.declared.saturating_add_value.SaturatingAddValue.TheVariants as count
use Rattle.abi_det.specs.Frame.{Frame, forbids}
use Rattle.abi_det.specs.Roles.{ok_is_larger, larger, smaller, sum_align, union_size, is_place, union_byte, spare_byte}
use Rattle.abi_det.specs.Offers.{Rules, Niche, first_offer, leading_pattern, shared_bit}
use Rattle.abi_det.specs.declared.placements.Kind.{Kind}
use Rattle.abi_det.specs.declared.placements.Kind.TheVariants as kind
use Rattle.abi_det.specs.declared.placements.Placement.{Placement}
use Rattle.abi_det.specs.declared.placements.Refusal.{Refusal}
use Rattle.abi_det.specs.declared.determinant.Determinant.{Determinant}
use Rattle.abi_det.specs.declared.determinant.Test.{Test}
use Rattle.abi_det.specs.declared.determinant.Test.TheVariants as test

-- the first byte of a pattern that is not wholly free
abbrev pub first_blocking : (ℕ → ℕ) → List Pair → ℕ
first_blocking free [] = 0
first_blocking free (p ∷ ps) = if free p.0 == 255 then first_blocking free ps else p.0

-- the first byte of each pattern, moved, that is not wholly free
abbrev pub blocking_bytes : (ℕ → ℕ) → ℕ → List (List Pair) → List ℕ
blocking_bytes free by pss = map (first_blocking free) (map (moved_pairs by) pss)

-- what refuses place k: the first blocking byte of each offered pattern
abbrev pub refusal_at : Frame → Frame → ℕ → ℕ → Refusal
refusal_at large small size k =
    if small.size == 0
    then record { place = k; smaller = []; larger = [] }
    else record {
      place = k;
      smaller =
          blocking_bytes (union_byte large 0 size) (k * small.align) (offered (forbids small));
      larger =
          map (first_blocking (union_byte small (k * small.align) size)) (offered (forbids large));
    }

-- one refusal for each existing place below `places`, in rising order
unfoldable pub refusals_below : Frame → Frame → ℕ → ℕ → List Refusal
refusals_below large small size zero = []
refusals_below large small size (suc k) =
    refusals_below large small size k
    ++ (if is_place small size k then refusal_at large small size k ∷ [] else [])

-- the byte is one of the pattern's, and is not wholly free
abbrev pub is_blocking : (ℕ → ℕ) → List Pair → ℕ → Bool
is_blocking free ps at = list_any (λ p. p.0 == at) ps && not (free at == 255)

-- one blocking byte for each pattern, in order, and nothing else
abbrev pub are_blocking : (ℕ → ℕ) → List (List Pair) → List ℕ → Bool
are_blocking free [] [] = true
are_blocking free [] (at ∷ ats) = false
are_blocking free (ps ∷ pss) [] = false
are_blocking free (ps ∷ pss) (at ∷ ats) = is_blocking free ps at && are_blocking free pss ats

abbrev pub is_none_named : List ℕ → Bool
is_none_named [] = true
is_none_named (at ∷ ats) = false

-- one blocking byte for each pattern, moved
abbrev pub all_blocking : (ℕ → ℕ) → ℕ → List (List Pair) → List ℕ → Bool
all_blocking free by pss ats = are_blocking free (map (moved_pairs by) pss) ats

-- the refusal names a blocking byte for each pattern of both variants; for an empty smaller one none, and none leads
abbrev pub are_named :
    Option (List Pair) → List Item → List Item → Frame → Frame → ℕ → Refusal → Bool
are_named leading larger smaller large small size r =
    if small.size == 0
    then is_none_named r.smaller && is_none_named r.larger && is_none leading
    else all_blocking (union_byte large 0 size) (r.place * small.align) (offered smaller) r.smaller
    && are_blocking (union_byte small (r.place * small.align) size) (offered larger) r.larger

-- the same of variants that forbid these values
abbrev pub names_each : Forbidden → Forbidden → Frame → Frame → ℕ → Refusal → Bool
names_each larger smaller = are_named (head_of larger) (items_of larger) (items_of smaller)

abbrev pub refuses : Rules → Frame → Frame → ℕ → Refusal → Bool
refuses rules large small size r =
    is_place small size r.place
    && are_named (leading_pattern rules large) (forbids large) (forbids small) large small size r
    && is_none (shared_bit large small size (r.place * small.align))

-- the refusal holds for the sum of the two
abbrev pub refusal_holds : Rules → Frame → Frame → Refusal → Bool
refusal_holds rules ok err r = refuses rules (larger ok err) (smaller ok err) (union_size ok err) r

-- the niche of kind 1 means the larger variant, every other and a tag of 1 the smaller
abbrev pub means_ok : Kind → Bool → Bool
means_ok kind.SmallerPattern ok_larger = ok_larger
means_ok kind.LargerPattern ok_larger = not ok_larger
means_ok kind.SharedBit ok_larger = not ok_larger
means_ok kind.Tag ok_larger = not ok_larger

-- the determinant of a niche of that kind, or of a tag
abbrev pub told_by : Kind → Bool → Test → Determinant
told_by k ok_larger t = record { «not» = means_ok k ok_larger; test = t }

-- the bits of a byte without the one bit that the test takes; a pattern's bytes are free in neither frame
abbrev pub without : Test → (ℕ → ℕ) → ℕ → ℕ
without test.BitDeterminant bits at = bits at
without (test.ValueIsErr ps) bits at = bits at
without (test.BitIsErr offset mask) bits at =
    if at == offset then bit_xor (bits at) mask else bits at

-- the bits of a byte that are free in both variants of a sum, the smaller standing at `shift`
abbrev pub shared_bits : Frame → Frame → ℕ → ℕ → ℕ
shared_bits ok err shift = spare_byte (larger ok err) (smaller ok err) shift (union_size ok err)

-- what is exported of the bits told below n
abbrev pub exported : Test → (ℕ → ℕ) → ℕ → List Pair
exported t bits n = entries_below (without t bits) n

-- what a tag leaves free of the bytes in front: bits 1 to 7 of byte 0, and the other bytes
abbrev pub beside_tag : ℕ → ℕ
beside_tag at = if at == 0 then 254 else 255

abbrev pub tagged : Frame → Frame → Placement
tagged ok err = record {
  ok_shift = 0;
  err_shift = 0;
  place = 0;
  front = sum_align ok err;
  kind = kind.Tag;
  determinant = told_by kind.Tag (ok_is_larger ok err) test.BitDeterminant;
  exported = entries_below beside_tag (sum_align ok err);
  refusals = refusals_below (larger ok err) (smaller ok err) (union_size ok err) 8;
}

abbrev pub niched : Frame → Frame → ℕ → Niche → Placement
niched ok err k niche =
    let shift : ℕ = k * (smaller ok err).align in record {
      ok_shift = if ok_is_larger ok err then 0 else shift;
      err_shift = if ok_is_larger ok err then shift else 0;
      place = k;
      front = 0;
      kind = niche.kind;
      determinant = told_by niche.kind (ok_is_larger ok err) niche.test;
      exported = exported niche.test (shared_bits ok err shift) (union_size ok err);
      refusals = [];
    }

abbrev pub placement_of : Frame → Frame → Option (ℕ × Niche) → Placement
placement_of ok err None = tagged ok err
placement_of ok err (Some found) = niched ok err found.0 found.1

unfoldable pub written_placement : Rules → Frame → Frame → Placement
written_placement rules ok err =
    placement_of ok err (first_offer rules (larger ok err) (smaller ok err) (union_size ok err) 8)

-- the placement is that of the two under some rules
abbrev pub IsPlacement : Frame → Frame → Placement → Type 0
IsPlacement ok err p = (rules : Rules) × (p ≡ written_placement rules ok err)

-- the frame of a sum with this placement
abbrev pub sum_frame : Frame → Frame → Placement → Frame
sum_frame ok err p = record {
  size = union_size ok err + p.front;
  align = sum_align ok err;
  free = p.exported;
  forbidden = nothing;
  niches = count.B0;
  indirections = ok.indirections || err.indirections;
}

unfoldable pub written_sum : Rules → Frame → Frame → Frame
written_sum rules ok err = sum_frame ok err (written_placement rules ok err)

-- the frame is the written one under whichever rules the placement is
abbrev pub IsWrittenWith : Frame → Frame → Placement → Frame → Type 0
IsWrittenWith ok err p sum =
    (rules : Rules) → p ≡ written_placement rules ok err → sum ≡ written_sum rules ok err
