-- Sums as the compiler lays them out: one variant, the payload, has exactly one niche, a pattern, and the other has no bytes.
use Rattle.std.specs.Prelude.{List, [], ◌∷◌, Bool, true, false, ◌&&◌, ◌||◌, ◌==◌}
use Rattle.abi_bits.specs.Pairs.{Pair}
use Rattle.abi_bits.specs.Forbidden.{Item, pattern}
use Rattle.abi_bits.specs.declared.saturating_add_value.SaturatingAddValue.{SaturatingAddValue}
use Rattle.abi_bits.specs.declared.saturating_add_value.SaturatingAddValue.TheVariants as count
use Rattle.abi_det.specs.Frame.{Frame, forbids}
use Rattle.abi_layout.specs.Builders.{bare}
use Rattle.abi_layout.specs.Trees.{sides}

-- no bytes, and no alignment to keep
abbrev pub is_empty : Frame → Bool
is_empty f = f.size == 0 && f.align == 1

abbrev pub is_one : SaturatingAddValue → Bool
is_one count.B1 = true
is_one _ = false

abbrev pub is_void : List Item → Bool
is_void [] = true
is_void (it ∷ its) = false

-- the one pattern among the items; nothing where there is another item or none
abbrev pub sole_pattern : List Item → List Pair
sole_pattern (pattern ps ∷ []) = ps
sole_pattern _ = []

abbrev pub is_sole_pattern : List Item → Bool
is_sole_pattern (pattern ps ∷ []) = true
is_sole_pattern _ = false

-- the payload is the first variant where the second has no bytes
abbrev pub payload_first : Frame → Frame → Bool
payload_first ok err = is_empty err

abbrev pub payload : Frame → Frame → Frame
payload ok err = sides ok err (payload_first ok err)

-- what the payload never is: it means the other variant
abbrev pub absence : Frame → Frame → List Pair
absence ok err = sole_pattern (forbids (payload ok err))

-- the payload has one niche, which is a pattern, and the other variant has no bytes
abbrev pub is_core_sum : Frame → Frame → Bool
is_core_sum ok err =
    is_one (payload ok err).niches && is_sole_pattern (forbids (payload ok err))
    && is_empty (sides err ok (payload_first ok err))

-- as large as its payload, and nothing is left for a sum around it
abbrev pub core_frame : Frame → Frame → Frame
core_frame ok err =
    bare (payload ok err).size (payload ok err).align count.B0 (ok.indirections || err.indirections)
