-- The two variants of a sum in one union: which is the larger, where the smaller may stand, and what each leaves free.
use Rattle.std.specs.Prelude.{ℕ, ◌+◌, ◌-◌, ◌*◌, List, Bool, ◌&&◌, nat_le, nat_lt, ◌==◌, max, bit_and, if◌then◌else◌}
use Rattle.std.specs.List.{list_all}
use Rattle.std.specs.Int.{next_multiple_of}
use Rattle.abi_bits.specs.Pairs.{Pair}
use Rattle.abi_bits.specs.Mask.{mask_at}
use Rattle.abi_det.specs.Frame.{Frame}

-- `Ok` is the larger variant where its size is at least the other's
abbrev pub ok_is_larger : Frame → Frame → Bool
ok_is_larger ok err = nat_le err.size ok.size

abbrev pub larger : Frame → Frame → Frame
larger ok err = if ok_is_larger ok err then ok else err

abbrev pub smaller : Frame → Frame → Frame
smaller ok err = if ok_is_larger ok err then err else ok

abbrev pub sum_align : Frame → Frame → ℕ
sum_align ok err = max ok.align err.align

-- the larger size, rounded up to the sum's alignment
abbrev pub union_size : Frame → Frame → ℕ
union_size ok err = next_multiple_of (max ok.size err.size) (sum_align ok err)

-- place k of the smaller variant stands at k times its alignment, where it ends within the union; of an empty one there
-- is place 0 alone
abbrev pub is_place : Frame → ℕ → ℕ → Bool
is_place small size k =
    if small.size == 0 then k == 0 else (nat_lt k 8 && nat_le (k * small.align + small.size) size)

-- the bits of the byte at `at` that a variant at `shift` leaves free in a union of `size` bytes: its own free bits, and
-- all bits of the bytes beside it
abbrev pub union_byte : Frame → ℕ → ℕ → ℕ → ℕ
union_byte f shift size at =
    if nat_lt at size
    then (if nat_lt at shift
    then 255
    else (if nat_lt at (shift + f.size) then mask_at f.free (at - shift) else 255))
    else 0

-- every byte of the pattern is wholly free
abbrev pub lies_free : (ℕ → ℕ) → List Pair → Bool
lies_free free ps = list_all (λ p. free p.0 == 255) ps

-- the bits of a byte that are free in both union frames; where the smaller variant is empty, those of the larger itself
abbrev pub spare_byte : Frame → Frame → ℕ → ℕ → ℕ → ℕ
spare_byte large small shift size at =
    if small.size == 0
    then mask_at large.free at
    else bit_and (union_byte large 0 size at) (union_byte small shift size at)
