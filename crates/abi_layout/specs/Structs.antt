-- A struct by positions: where each field starts, which bytes lie between, where the end is.
use Rattle.std.specs.Prelude.{ℕ, ◌+◌, List, [], ◌∷◌, Bool, false, ◌||◌, ◌==◌, max, Option, Some, None, bit_or}
use Rattle.std.specs.Int.{next_multiple_of}
use Rattle.abi_bits.specs.Mask.{entries_below}
use Rattle.abi_bits.specs.Forbidden.{Forbidden, nothing, or, moved_tree}
use Rattle.abi_bits.specs.declared.saturating_add_value.SaturatingAddValue.{SaturatingAddValue}
use Rattle.abi_bits.specs.declared.saturating_add_value.SaturatingAddValue.TheVariants as count
use Rattle.abi_det.specs.Frame.{Frame}
use Rattle.abi_layout.specs.Builders.{start_after, whole_between, byte_from, counted}
use Rattle.abi_bits.specs.Count.{added}

-- a field: where the one before it ends, where it starts, and its frame
pub record Positioned : Type 0 where
  pub before : ℕ
  pub start : ℕ
  pub held : Frame

-- each field starts at the end of the one before, rounded up to its own alignment; the first at `end`
abbrev pub positions : ℕ → List Frame → List Positioned
positions end [] = []
positions end (f ∷ fs) =
    record { before = end; start = start_after end f; held = f }
    ∷ positions (start_after end f + f.size) fs

-- where the last field ends
abbrev pub end_of : ℕ → List Frame → ℕ
end_of end [] = end
end_of end (f ∷ fs) = end_of (start_after end f + f.size) fs

-- the greatest alignment of the fields, and 1 without fields
abbrev pub fields_align : List Frame → ℕ
fields_align [] = 1
fields_align (f ∷ fs) = max f.align (fields_align fs)

abbrev pub requested_align : ℕ → Option ℕ → ℕ
requested_align align None = align
requested_align align (Some n) = max align n

abbrev pub total_size : List Frame → ℕ
total_size [] = 0
total_size (f ∷ fs) = f.size + total_size fs

abbrev pub total_count : List Frame → SaturatingAddValue
total_count [] = count.B0
total_count (f ∷ fs) = added f.niches (total_count fs)

abbrev pub is_indirect : List Frame → Bool
is_indirect [] = false
is_indirect (f ∷ fs) = f.indirections || is_indirect fs

-- the free bits at a byte: the fields' own at their places, and the bytes before each field
abbrev pub fields_byte : List Positioned → ℕ → ℕ
fields_byte [] at = 0
fields_byte (p ∷ ps) at =
    bit_or (bit_or (whole_between p.before p.start at) (byte_from p.start p.held at))
    (fields_byte ps at)

-- what the fields forbid at their places, each joined to the right of those before it
abbrev pub joined_fields : Forbidden → List Positioned → Forbidden
joined_fields so_far [] = so_far
joined_fields so_far (p ∷ ps) =
    joined_fields (or so_far (moved_tree p.start p.held.forbidden)) ps

abbrev pub fields_forbidden : List Positioned → Forbidden
fields_forbidden [] = nothing
fields_forbidden (p ∷ ps) = joined_fields (moved_tree p.start p.held.forbidden) ps

-- the frame of a struct of these fields, where `align` may request an alignment: its bytes from the end of the last field to the rounding at the
-- fields' own alignment are free too, and its count is the fields' own where no byte was added
unfoldable pub struct_frame : List Frame → Option ℕ → Frame
struct_frame fs align =
    let end : ℕ = end_of 0 fs in
    let whole : ℕ = requested_align (fields_align fs) align in
    let size : ℕ = next_multiple_of end whole in record {
      size = size;
      align = whole;
      free =
          entries_below
          (λ at. bit_or (fields_byte (positions 0 fs) at)
          (whole_between end (next_multiple_of end (fields_align fs)) at))
          size;
      forbidden = fields_forbidden (positions 0 fs);
      niches = counted (size == total_size fs) (total_count fs);
      indirections = is_indirect fs;
    }
