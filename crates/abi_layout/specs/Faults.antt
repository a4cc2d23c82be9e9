-- The first fault of a description on a target: in post-order, of each part first its form, then its stability, then its size.
use Rattle.std.specs.Prelude.{◌≡◌, ◌≢◌, ℕ, ◌+◌, List, Bool, true, false, not, nat_lt, Option, Some, None, if◌then◌else◌}
use Rattle.abi_num.specs.Alignment.{is_alignment}
use Rattle.abi_num.specs.Target.{is_row}
use Rattle.abi_num.specs.declared.target.Target.{Target}
use Rattle.abi_bits.specs.Pairs.{max_size}
use Rattle.abi_bits.specs.declared.saturating_add_value.SaturatingAddValue.{SaturatingAddValue}
use Rattle.abi_det.specs.Offers.{Rules, or_else}
use Rattle.abi_det.specs.Frame.{Frame}
use Rattle.abi_det.specs.Written.{written_sum}
use Rattle.abi_layout.specs.Builders.{repeated, bare}
use Rattle.abi_layout.specs.CoreSums.{is_core_sum, core_frame}
use Rattle.abi_layout.specs.Forms.{form_of}
use Rattle.abi_layout.specs.Frames.{written_frame}
use Rattle.abi_layout.specs.Leaves.{is_sized, is_leaf, leaf_frame}
use Rattle.abi_layout.specs.Prims.{is_form, prim_frame}
use Rattle.abi_layout.specs.Structs.{struct_frame}
use Rattle.abi_layout.specs.Trees.{Tree, Branches, prim, struct, array, union, sum, core, wrap, stable_if, pointer, no_niches, leaf, none, field, variant_parts, parts, parts_in}
use Rattle.abi_layout.specs.declared.desc.LeafDesc.{LeafDesc}
use Rattle.abi_layout.specs.declared.desc_error.DescError.{DescError}
use Rattle.abi_layout.specs.declared.desc_error.DescError.TheVariants as fault
use Rattle.abi_layout.specs.declared.prim.Primitive.{Primitive}

-- a fault where the test fails
abbrev pub unless : Bool → DescError → Option DescError
unless test found = if test then None else Some found

-- a part's size passes the greatest size
abbrev pub size_fault : ℕ → Frame → Option DescError
size_fault part f = if nat_lt max_size f.size then Some (fault.TooLarge part) else None

-- a requested alignment is no power of two up to the greatest alignment
abbrev pub align_fault : ℕ → Option ℕ → Option DescError
align_fault part None = None
align_fault part (Some align) = unless (is_alignment align) (fault.IllFormed part)

-- the greatest number of items of an array
abbrev pub max_len : ℕ
max_len = 128

abbrev pub length_fault : ℕ → ℕ → Option DescError
length_fault part len = unless (not (nat_lt max_len len)) (fault.ArrayLength part)

-- ---- a part itself

-- what is wrong with its form
abbrev pub form_fault : Target → ℕ → Tree → Option DescError
form_fault target part (prim p) = unless (is_form target (form_of p)) (fault.IllFormed part)
form_fault target part (struct label fs align) = align_fault part align
form_fault target part (array item len) = length_fault part len
form_fault target part (no_niches size align niches indirections) =
    unless (is_sized size align) (fault.IllFormed part)
form_fault target part (leaf l) = unless (is_leaf l) (fault.IllFormed part)
form_fault target part _ = None

-- a sum that the compiler would not lay out so
abbrev pub stability_fault : Rules → Target → ℕ → Tree → Option DescError
stability_fault rules target part (core names side) =
    unless
    (is_core_sum (written_frame rules target (side true)) (written_frame rules target (side false)))
    (fault.NotStable part)
stability_fault rules target part _ = None

abbrev pub own_fault : Rules → Target → ℕ → Tree → Option DescError
own_fault rules target part t =
    or_else (form_fault target part t)
    (or_else (stability_fault rules target part t) (size_fault part (written_frame rules target t)))

-- the same by what a part is made of
abbrev pub prim_fault : Target → ℕ → Primitive → Option DescError
prim_fault target part p =
    or_else (unless (is_form target (form_of p)) (fault.IllFormed part))
    (size_fault part (prim_frame target p))

abbrev pub bytes_fault : ℕ → ℕ → ℕ → SaturatingAddValue → Bool → Option DescError
bytes_fault part size align niches indirections =
    or_else (unless (is_sized size align) (fault.IllFormed part))
    (size_fault part (bare size align niches indirections))

abbrev pub leaf_fault : ℕ → LeafDesc → Option DescError
leaf_fault part l =
    or_else (unless (is_leaf l) (fault.IllFormed part)) (size_fault part (leaf_frame l))

-- and by the frames of its own parts
abbrev pub struct_fault : ℕ → List Frame → Option ℕ → Option DescError
struct_fault part fs align =
    or_else (align_fault part align) (size_fault part (struct_frame fs align))

abbrev pub array_fault : ℕ → Frame → ℕ → Option DescError
array_fault part item len = or_else (length_fault part len) (size_fault part (repeated item len))

abbrev pub sum_fault : Rules → ℕ → Frame → Frame → Option DescError
sum_fault rules part ok err = size_fault part (written_sum rules ok err)

abbrev pub core_fault : ℕ → Frame → Frame → Option DescError
core_fault part ok err =
    or_else (unless (is_core_sum ok err) (fault.NotStable part))
    (size_fault part (core_frame ok err))

-- ---- all parts

-- an error that is the fault, or want of memory
abbrev pub IsFault : Option DescError → DescError → Type 0
IsFault found error = error ≢ fault.OutOfMemory → found ≡ Some error

-- the first fault among the parts of a tree whose first part has this number
abbrev mutual
  pub part_fault : Rules → Target → ℕ → Tree → Option DescError
  part_fault rules target first (prim p) = own_fault rules target first (prim p)
  part_fault rules target first (struct label fs align) =
      or_else (part_fault_in rules target first fs)
      (own_fault rules target (first + parts_in fs) (struct label fs align))
  part_fault rules target first (array item len) =
      or_else (part_fault rules target first item)
      (own_fault rules target (first + parts item) (array item len))
  part_fault rules target first (union side) =
      or_else (part_fault rules target first (side true))
      (or_else (part_fault rules target (first + parts (side true)) (side false))
      (own_fault rules target (first + (parts (side true) + parts (side false))) (union side)))
  part_fault rules target first (sum names side) =
      or_else (part_fault rules target first (side true))
      (or_else (part_fault rules target (first + parts (side true)) (side false))
      (own_fault rules target
      (first + variant_parts names (parts (side true)) (parts (side false))) (sum names side)))
  part_fault rules target first (core names side) =
      or_else (part_fault rules target first (side true))
      (or_else (part_fault rules target (first + parts (side true)) (side false))
      (own_fault rules target
      (first + variant_parts names (parts (side true)) (parts (side false))) (core names side)))
  part_fault rules target first (wrap kind t) =
      or_else (part_fault rules target first t)
      (own_fault rules target (first + parts t) (wrap kind t))
  part_fault rules target first (stable_if value condition) =
      or_else (part_fault rules target first value)
      (or_else (part_fault rules target (first + parts value) condition)
      (own_fault rules target (first + (parts value + parts condition))
      (stable_if value condition)))
  part_fault rules target first (pointer kind t) =
      or_else (part_fault rules target first t)
      (own_fault rules target (first + parts t) (pointer kind t))
  part_fault rules target first (no_niches size align niches indirections) =
      own_fault rules target first (no_niches size align niches indirections)
  part_fault rules target first (leaf l) = own_fault rules target first (leaf l)

  pub part_fault_in : Rules → Target → ℕ → Branches → Option DescError
  part_fault_in rules target first none = None
  part_fault_in rules target first (field name t fs) =
      or_else (part_fault rules target first t) (part_fault_in rules target (first + parts t) fs)

-- the greatest number of parts of a description
abbrev pub max_parts : ℕ
max_parts = 4096

-- the first fault of a description: its target, its number of parts, then part by part
unfoldable pub desc_fault : Rules → Target → Tree → Option DescError
desc_fault rules target t =
    if not (is_row target) then Some fault.BadTarget
    else (if nat_lt max_parts (parts t)
    then Some fault.TooManyParts
    else part_fault rules target 0 t)

-- the fault of a description whatever the rules
abbrev pub IsFaultByAny : Target → Tree → DescError → Type 0
IsFaultByAny target t error = (rules : Rules) → desc_fault rules target t ≡ Some error
