-- What a primitive is, by its name.
use Rattle.abi_layout.specs.declared.prim.IntKind.TheVariants as kind
use Rattle.abi_layout.specs.declared.prim.Form.{Form}
use Rattle.abi_layout.specs.declared.prim.Form.TheVariants as form
use Rattle.abi_layout.specs.declared.prim.Primitive.{Primitive}
use Rattle.abi_layout.specs.declared.prim.Primitive.TheVariants as prim

abbrev pub form_of : Primitive → Form
form_of prim.Unit = form.Unit
form_of prim.PhantomData = form.Unit
form_of prim.PhantomPinned = form.Unit
form_of prim.CVoid = form.Unit
form_of prim.Bool = form.Truth
form_of prim.Ordering = form.Order
form_of prim.U8 = form.Integer kind.U8
form_of prim.U16 = form.Integer kind.U16
form_of prim.U32 = form.Integer kind.U32
form_of prim.U64 = form.Integer kind.U64
form_of prim.U128 = form.Integer kind.U128
form_of prim.Usize = form.Integer kind.Usize
form_of prim.I8 = form.Integer kind.I8
form_of prim.I16 = form.Integer kind.I16
form_of prim.I32 = form.Integer kind.I32
form_of prim.I64 = form.Integer kind.I64
form_of prim.I128 = form.Integer kind.I128
form_of prim.Isize = form.Integer kind.Isize
form_of prim.AtomicBool = form.Truth
form_of prim.AtomicU8 = form.Atomic kind.U8
form_of prim.AtomicU16 = form.Atomic kind.U16
form_of prim.AtomicU32 = form.Atomic kind.U32
form_of prim.AtomicU64 = form.Atomic kind.U64
form_of prim.AtomicUsize = form.Atomic kind.Usize
form_of prim.AtomicI8 = form.Atomic kind.I8
form_of prim.AtomicI16 = form.Atomic kind.I16
form_of prim.AtomicI32 = form.Atomic kind.I32
form_of prim.AtomicI64 = form.Atomic kind.I64
form_of prim.AtomicIsize = form.Atomic kind.Isize
form_of prim.NonZeroU8 = form.NonZero kind.U8
form_of prim.NonZeroU16 = form.NonZero kind.U16
form_of prim.NonZeroU32 = form.NonZero kind.U32
form_of prim.NonZeroU64 = form.NonZero kind.U64
form_of prim.NonZeroU128 = form.NonZero kind.U128
form_of prim.NonZeroUsize = form.NonZero kind.Usize
form_of prim.NonZeroI8 = form.NonZero kind.I8
form_of prim.NonZeroI16 = form.NonZero kind.I16
form_of prim.NonZeroI32 = form.NonZero kind.I32
form_of prim.NonZeroI64 = form.NonZero kind.I64
form_of prim.NonZeroI128 = form.NonZero kind.I128
form_of prim.NonZeroIsize = form.NonZero kind.Isize
form_of prim.NonMaxU8 = form.NonMax kind.U8
form_of prim.NonMaxU16 = form.NonMax kind.U16
form_of prim.NonMaxU32 = form.NonMax kind.U32
form_of prim.NonMaxU64 = form.NonMax kind.U64
form_of prim.NonMaxU128 = form.NonMax kind.U128
form_of prim.NonMaxUsize = form.NonMax kind.Usize
form_of (prim.NonX kind magnitude negative) = form.NonX kind magnitude negative
form_of prim.OwnedFd = form.Descriptor
form_of prim.BorrowedFd = form.Descriptor
form_of prim.FnPtr = form.Function
