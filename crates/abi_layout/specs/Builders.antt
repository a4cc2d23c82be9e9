-- Frames built from frames: after other bytes, as a pair of fields, closed as a struct, as a union, as an array.
use Rattle.std.specs.Prelude.{ℕ, ◌+◌, ◌-◌, ◌*◌, [], Bool, true, false, ◌&&◌, ◌||◌, nat_le, nat_lt, ◌==◌, max, bit_or, IsTrue, if◌then◌else◌}
use Rattle.std.specs.List.{list_all}
use Rattle.std.specs.Int.{next_multiple_of}
use Rattle.abi_num.specs.Alignment.{is_alignment}
use Rattle.abi_bits.specs.Pairs.{are_below, max_size}
use Rattle.abi_bits.specs.Mask.{mask_at, entries_below}
use Rattle.abi_bits.specs.Forbidden.{nothing, or, moved_tree, is_solid_item}
use Rattle.abi_bits.specs.declared.saturating_add_value.SaturatingAddValue.{SaturatingAddValue}
use Rattle.abi_bits.specs.declared.saturating_add_value.SaturatingAddValue.TheVariants as count
use Rattle.abi_det.specs.Frame.{Frame, forbids}
use Rattle.abi_bits.specs.Count.{added}

-- lawful but for the size, which need be no multiple of the alignment: what is built of fields before it is closed
abbrev pub is_open : Frame → Bool
is_open f =
    is_alignment f.align && nat_le f.size max_size
    && are_below f.size f.free && list_all (is_solid_item f.size f.free) (forbids f)

abbrev pub IsOpen : Frame → Type 0
IsOpen f = IsTrue (is_open f)

-- all bits of the bytes from `from` up to `to`
abbrev pub whole_between : ℕ → ℕ → ℕ → ℕ
whole_between from to at = if nat_le from at && nat_lt at to then 255 else 0

-- the free bits at a byte of a frame that stands at `start`
abbrev pub byte_from : ℕ → Frame → ℕ → ℕ
byte_from start f at = if nat_le start at then mask_at f.free (at - start) else 0

-- where a frame starts after `end` bytes: at the next multiple of its alignment
abbrev pub start_after : ℕ → Frame → ℕ
start_after end f = next_multiple_of end f.align

-- a frame after `end` bytes: at the next multiple of its alignment, with the bytes up to there free
unfoldable pub after : Frame → ℕ → Frame
after f end = let start : ℕ = start_after end f in record {
  size = start + f.size;
  align = f.align;
  free =
      entries_below (λ at. bit_or (whole_between end start at) (byte_from start f at))
      (start + f.size);
  forbidden = moved_tree start f.forbidden;
  niches = f.niches;
  indirections = f.indirections;
}

-- the count of what has this many bytes and no others: a byte that was added is a niche by itself
abbrev pub counted : Bool → SaturatingAddValue → SaturatingAddValue
counted true n = n
counted false n = count.Saturator

-- a field after other fields
unfoldable pub pair : Frame → Frame → Frame
pair a b = let start : ℕ = start_after a.size b in record {
  size = start + b.size;
  align = max a.align b.align;
  free =
      entries_below
      (λ at. bit_or (mask_at a.free at)
      (bit_or (whole_between a.size start at) (byte_from start b at)))
      (start + b.size);
  forbidden = or a.forbidden (moved_tree start b.forbidden);
  niches = counted (start + b.size == a.size + b.size) (added a.niches b.niches);
  indirections = a.indirections || b.indirections;
}

-- the size rounded up to a multiple of `whole`, with the bytes up to the rounding at the frame's own alignment free
unfoldable pub rounded_to : Frame → ℕ → Frame
rounded_to f whole = let size : ℕ = next_multiple_of f.size whole in record f {
  size = size;
  align = whole;
  free =
      entries_below
      (λ at. bit_or (mask_at f.free at) (whole_between f.size (next_multiple_of f.size f.align) at))
      size;
  niches = counted (size == f.size) f.niches;
}

-- the size rounded up to the alignment, with the added bytes free
abbrev pub closed : Frame → Frame
closed f = rounded_to f f.align

-- the same at a requested alignment: only the bytes up to the fields' own rounding are free
abbrev pub closed_at : Frame → ℕ → Frame
closed_at f align = rounded_to f (max f.align align)

-- bytes of which none is free or forbidden
abbrev pub bare : ℕ → ℕ → SaturatingAddValue → Bool → Frame
bare size align niches indirections =
    record {
      size = size;
      align = align;
      free = [];
      forbidden = nothing;
      niches = niches;
      indirections = indirections;
    }

-- either of two in the same bytes: nothing is free or forbidden in both
unfoldable pub overlaid : Frame → Frame → Frame
overlaid a b =
    bare (next_multiple_of (max a.size b.size) (max a.align b.align)) (max a.align b.align) count.B0
    (a.indirections || b.indirections)

-- several of one in a row: one alone passes on what it has
unfoldable pub repeated : Frame → ℕ → Frame
repeated item len =
    if len == 1
    then item
    else bare (item.size * len) item.align
    (if len == 0 then count.B0 else count.Saturator) item.indirections
