-- Primitives: how each stands in its bytes on a target, in one table, and the frame that follows from its row.
use Rattle.std.specs.Prelude.{ℕ, zero, suc, ◌-◌, ◌*◌, ◌^◌, List, [], ◌∷◌, ◌++◌, Bool, true, false, ◌&&◌, nat_le, nat_lt, ◌==◌, if◌then◌else◌}
use Rattle.abi_num.specs.declared.target.Target.{Target}
use Rattle.abi_bits.specs.Pairs.{Pair}
use Rattle.abi_bits.specs.Forbidden.{Item, pattern, range, tree_of}
use Rattle.abi_bits.specs.declared.saturating_add_value.SaturatingAddValue.TheVariants as count
use Rattle.abi_det.specs.Frame.{Frame}
use Rattle.abi_layout.specs.Builders.{bare}
use Rattle.abi_layout.specs.Forms.{form_of}
use Rattle.abi_layout.specs.declared.desc.PointerKind.{PointerKind}
use Rattle.abi_layout.specs.declared.desc.PointerKind.TheVariants as pointers
use Rattle.abi_layout.specs.declared.prim.Form.{Form}
use Rattle.abi_layout.specs.declared.prim.Form.TheVariants as form
use Rattle.abi_layout.specs.declared.prim.IntKind.{IntKind}
use Rattle.abi_layout.specs.declared.prim.IntKind.TheVariants as kind
use Rattle.abi_layout.specs.declared.prim.Primitive.{Primitive}
use Rattle.abi_layout.specs.declared.prim.Primitive.TheVariants as prim
use Rattle.abi_layout.specs.declared.primitives.Row.{Row}
use Rattle.abi_layout.specs.declared.scalar.Scalar.{Scalar}
use Rattle.abi_layout.specs.declared.scalar.Scalar.TheVariants as scalars
use Rattle.abi_layout.specs.declared.scalar.Stored.{Stored}
use Rattle.abi_layout.specs.declared.scalar.Stored.TheVariants as stored
use Rattle.abi_layout.specs.declared.scalar.Width.{Width}
use Rattle.abi_layout.specs.declared.scalar.Width.TheVariants as width

-- in bytes
abbrev pub width_size : Width → ℕ
width_size width.One = 1
width_size width.Two = 2
width_size width.Four = 4
width_size width.Eight = 8
width_size width.Sixteen = 16

-- in bytes
abbrev pub scalar_size : Scalar → ℕ
scalar_size scalars.Unit = 0
scalar_size scalars.Bool = 1
scalar_size scalars.Order = 1
scalar_size (scalars.Int i) = width_size i.width

-- ---- kinds of integers

-- the width of a pointer
abbrev pub pointer_width : Target → Width
pointer_width t =
    if t.pointer == 2 then width.Two else (if t.pointer == 4 then width.Four else width.Eight)

abbrev pub kind_width : Target → IntKind → Width
kind_width t kind.U8 = width.One
kind_width t kind.U16 = width.Two
kind_width t kind.U32 = width.Four
kind_width t kind.U64 = width.Eight
kind_width t kind.U128 = width.Sixteen
kind_width t kind.Usize = pointer_width t
kind_width t kind.I8 = width.One
kind_width t kind.I16 = width.Two
kind_width t kind.I32 = width.Four
kind_width t kind.I64 = width.Eight
kind_width t kind.I128 = width.Sixteen
kind_width t kind.Isize = pointer_width t

abbrev pub is_signed : IntKind → Bool
is_signed kind.U8 = false
is_signed kind.U16 = false
is_signed kind.U32 = false
is_signed kind.U64 = false
is_signed kind.U128 = false
is_signed kind.Usize = false
is_signed _ = true

-- an integer is aligned to its size, but where the target says otherwise
abbrev pub kind_align : Target → IntKind → ℕ
kind_align t kind.U64 = t.u64_align
kind_align t kind.I64 = t.u64_align
kind_align t kind.U128 = t.u128_align
kind_align t kind.I128 = t.u128_align
kind_align t kind.Usize = t.pointer
kind_align t kind.Isize = t.pointer
kind_align t k = width_size (kind_width t k)

-- the integer of this distance from 0, below it where `negative`, has a place in the width; no 0 lies below 0
abbrev pub in_width : Width → Bool → ℕ → Bool → Bool
in_width w is_signed magnitude true =
    is_signed && (nat_lt 0 magnitude && nat_le magnitude (2 ^ (8 * width_size w - 1)))
in_width w is_signed magnitude false =
    nat_lt magnitude (2 ^ (if is_signed then 8 * width_size w - 1 else 8 * width_size w))

-- ---- the table

abbrev pub integer : Target → IntKind → Bool → Stored → Scalar
integer t k has_zero how =
    scalars.Int (record {
      width = kind_width t k;
      signed = is_signed k;
      zero = has_zero;
      little = t.little;
      stored = how;
    })

abbrev pub plain_integer : Target → IntKind → Row
plain_integer t k =
    record {
      scalar = integer t k true stored.Itself;
      align = kind_align t k;
      niches = count.B0;
      indirections = false;
    }

-- an integer whose bytes are never all 0
abbrev pub restricted : Target → IntKind → Stored → Row
restricted t k how =
    record {
      scalar = integer t k false how;
      align = kind_align t k;
      niches = count.B1;
      indirections = false;
    }

-- each primitive's row, by what it is
abbrev pub row_of : Target → Form → Row
row_of t form.Unit =
    record { scalar = scalars.Unit; align = 1; niches = count.B0; indirections = false }
row_of t form.Truth =
    record { scalar = scalars.Bool; align = 1; niches = count.Saturator; indirections = false }
row_of t form.Order =
    record { scalar = scalars.Order; align = 1; niches = count.Saturator; indirections = false }
row_of t (form.Integer k) = plain_integer t k
row_of t (form.Atomic k) = record (plain_integer t k) { align = width_size (kind_width t k) }
row_of t (form.NonZero k) = restricted t k stored.Itself
row_of t (form.NonMax k) = restricted t k stored.Complement
row_of t (form.NonX k magnitude negative) = restricted t k (stored.Distance magnitude negative)
row_of t form.Descriptor =
    record (plain_integer t kind.I32) { niches = count.Saturator; indirections = true }
row_of t form.Function = record (restricted t kind.Usize stored.Itself) { indirections = true }

abbrev pub prim_row : Target → Primitive → Row
prim_row t p = row_of t (form_of p)

-- how a primitive stands in its bytes
abbrev pub scalar_of : Target → Primitive → Scalar
scalar_of t p = (prim_row t p).scalar

-- a pointer that is never null
abbrev pub is_never_null : PointerKind → Bool
is_never_null pointers.ConstPtr = false
is_never_null pointers.MutPtr = false
is_never_null pointers.AtomicPtr = false
is_never_null _ = true

-- pointers are addresses, as integers of the pointer's size
abbrev pub pointer_row : Target → PointerKind → Row
pointer_row t p =
    if is_never_null p
    then row_of t form.Function
    else record (plain_integer t kind.Usize) { indirections = true }

-- ---- what follows from a row

-- n bytes of 0
abbrev pub zero_bytes : ℕ → List Pair
zero_bytes zero = []
zero_bytes (suc n) = zero_bytes n ++ (n, 0) ∷ []

-- what the bytes never are: a truth value's are 0 or 1, an order's 255, 0 or 1, and some integers have no bytes of 0 alone
abbrev pub scalar_items : Scalar → List Item
scalar_items scalars.Unit = []
scalar_items scalars.Bool = range 0 2 255 ∷ []
scalar_items scalars.Order = range 0 2 254 ∷ []
scalar_items (scalars.Int i) = if i.zero then [] else pattern (zero_bytes (width_size i.width)) ∷ []

-- what has no parts has no free bits
unfoldable pub row_frame : Row → Frame
row_frame r = record {
  size = scalar_size r.scalar;
  align = r.align;
  free = [];
  forbidden = tree_of (scalar_items r.scalar);
  niches = r.niches;
  indirections = r.indirections;
}

abbrev pub prim_frame : Target → Primitive → Frame
prim_frame t p = row_frame (prim_row t p)

-- unsigned integers by their alignment: up to 16 bytes the target's own, larger ones of as many bytes
abbrev pub uint_frame : Target → ℕ → Frame
uint_frame t n =
    if n == 1 then prim_frame t prim.U8
    else (if n == 2 then prim_frame t prim.U16
    else (if n == 4 then prim_frame t prim.U32
    else (if n == 8 then prim_frame t prim.U64
    else (if n == 16 then prim_frame t prim.U128 else bare n n count.Saturator false))))

-- ---- the form of a primitive

-- what an integer never is must be one of its kind
abbrev pub is_form : Target → Form → Bool
is_form t (form.NonX k magnitude negative) =
    in_width (kind_width t k) (is_signed k) magnitude negative
is_form t _ = true
