-- A variant as a search sees it: what a placement goes by, and nothing else.
use Rattle.std.specs.Prelude.{ℕ, List, [], Bool, false, map, if◌then◌else◌}
use Rattle.abi_bits.specs.Pairs.{Pair}
use Rattle.abi_bits.specs.Forbidden.{Forbidden, nothing, or, pattern, tree_of}
use Rattle.abi_bits.specs.declared.saturating_add_value.SaturatingAddValue.TheVariants as count
use Rattle.abi_det.specs.Frame.{Frame}

-- values that forbid these patterns; where `headed`, the first of them leads, else none does
abbrev pub tree_of_side : List (List Pair) → Bool → Forbidden
tree_of_side pss headed =
    if headed then tree_of (map pattern pss) else or nothing (tree_of (map pattern pss))

-- the frame with these parts, which forbids the patterns; where `headed`, the first of them is its head
abbrev pub seen : ℕ → ℕ → List Pair → List (List Pair) → Bool → Frame
seen size align free pss headed = record {
  size = size;
  align = align;
  free = free;
  forbidden = tree_of_side pss headed;
  niches = count.B0;
  indirections = false;
}

-- the frame as far as its bytes are free or not
abbrev pub bare : Frame → Frame
bare f = seen f.size f.align f.free [] false
