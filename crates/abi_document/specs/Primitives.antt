-- Which trees of JSON are primitives, and which.
use Rattle.std.specs.Prelude.{ℕ, List, [], ◌∷◌, Option, Some, codes}
use Rattle.serde_json.specs.Data.{Data}
use Rattle.serde_json.specs.Find.{as_str}
use Rattle.abi_layout.specs.declared.prim.Primitive.{Primitive}
use Rattle.abi_layout.specs.declared.prim.Primitive.TheVariants as primitive
use Rattle.abi_layout.specs.declared.prim.IntKind.{IntKind}
use Rattle.abi_layout.specs.declared.prim.IntKind.TheVariants as kind
use Rattle.abi_document.specs.Forms.{◌>>=◌, by_name, pair_of}
use Rattle.abi_document.specs.Integers.{integer_in}

abbrev pub primitives : List (List ℕ × Primitive)
primitives =
    (codes "()", primitive.Unit)
    ∷ (codes "PhantomData", primitive.PhantomData)
    ∷ (codes "PhantomPinned", primitive.PhantomPinned)
    ∷ (codes "c_void", primitive.CVoid)
    ∷ (codes "bool", primitive.Bool)
    ∷ (codes "Ordering", primitive.Ordering)
    ∷ (codes "u8", primitive.U8)
    ∷ (codes "u16", primitive.U16)
    ∷ (codes "u32", primitive.U32)
    ∷ (codes "u64", primitive.U64)
    ∷ (codes "u128", primitive.U128)
    ∷ (codes "usize", primitive.Usize)
    ∷ (codes "i8", primitive.I8)
    ∷ (codes "i16", primitive.I16)
    ∷ (codes "i32", primitive.I32)
    ∷ (codes "i64", primitive.I64)
    ∷ (codes "i128", primitive.I128)
    ∷ (codes "isize", primitive.Isize)
    ∷ (codes "AtomicBool", primitive.AtomicBool)
    ∷ (codes "AtomicU8", primitive.AtomicU8)
    ∷ (codes "AtomicU16", primitive.AtomicU16)
    ∷ (codes "AtomicU32", primitive.AtomicU32)
    ∷ (codes "AtomicU64", primitive.AtomicU64)
    ∷ (codes "AtomicUsize", primitive.AtomicUsize)
    ∷ (codes "AtomicI8", primitive.AtomicI8)
    ∷ (codes "AtomicI16", primitive.AtomicI16)
    ∷ (codes "AtomicI32", primitive.AtomicI32)
    ∷ (codes "AtomicI64", primitive.AtomicI64)
    ∷ (codes "AtomicIsize", primitive.AtomicIsize)
    ∷ (codes "NonZeroU8", primitive.NonZeroU8)
    ∷ (codes "NonZeroU16", primitive.NonZeroU16)
    ∷ (codes "NonZeroU32", primitive.NonZeroU32)
    ∷ (codes "NonZeroU64", primitive.NonZeroU64)
    ∷ (codes "NonZeroU128", primitive.NonZeroU128)
    ∷ (codes "NonZeroUsize", primitive.NonZeroUsize)
    ∷ (codes "NonZeroI8", primitive.NonZeroI8)
    ∷ (codes "NonZeroI16", primitive.NonZeroI16)
    ∷ (codes "NonZeroI32", primitive.NonZeroI32)
    ∷ (codes "NonZeroI64", primitive.NonZeroI64)
    ∷ (codes "NonZeroI128", primitive.NonZeroI128)
    ∷ (codes "NonZeroIsize", primitive.NonZeroIsize)
    ∷ (codes "NonMaxU8", primitive.NonMaxU8)
    ∷ (codes "NonMaxU16", primitive.NonMaxU16)
    ∷ (codes "NonMaxU32", primitive.NonMaxU32)
    ∷ (codes "NonMaxU64", primitive.NonMaxU64)
    ∷ (codes "NonMaxU128", primitive.NonMaxU128)
    ∷ (codes "NonMaxUsize", primitive.NonMaxUsize)
    ∷ (codes "OwnedFd", primitive.OwnedFd)
    ∷ (codes "BorrowedFd", primitive.BorrowedFd)
    ∷ (codes "fn", primitive.FnPtr) ∷ []

-- a primitive by its name
unfoldable pub prim_named : List ℕ → Option Primitive
prim_named name = by_name primitives name

abbrev pub kinds : List (List ℕ × IntKind)
kinds =
    (codes "u8", kind.U8)
    ∷ (codes "u16", kind.U16)
    ∷ (codes "u32", kind.U32)
    ∷ (codes "u64", kind.U64)
    ∷ (codes "u128", kind.U128)
    ∷ (codes "usize", kind.Usize)
    ∷ (codes "i8", kind.I8)
    ∷ (codes "i16", kind.I16)
    ∷ (codes "i32", kind.I32)
    ∷ (codes "i64", kind.I64)
    ∷ (codes "i128", kind.I128)
    ∷ (codes "isize", kind.Isize) ∷ []

-- a kind of integers by its name
unfoldable pub kind_named : List ℕ → Option IntKind
kind_named name = by_name kinds name

-- an array of a kind of integers and the one number that is left out
abbrev pub non_x_of : Data → Option Primitive
non_x_of d = do
  pair ← pair_of d
  kind ← as_str pair.0 >>= kind_named
  number ← integer_in pair.1
  Some (primitive.NonX kind number.0 number.1)
