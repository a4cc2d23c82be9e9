-- Integers of a fixed width among the primitives.
use Rattle.std.specs.Prelude.{◌≡◌, ℕ, Bool, true, false}
use Rattle.abi_layout.specs.Prims.{in_width}
use Rattle.abi_layout.specs.declared.prim.IntKind.{IntKind}
use Rattle.abi_layout.specs.declared.prim.IntKind.TheVariants as kind
use Rattle.abi_layout.specs.declared.prim.Primitive.{Primitive}
use Rattle.abi_layout.specs.declared.prim.Primitive.TheVariants as primitive
use Rattle.abi_layout.specs.declared.scalar.Width.{Width}
use Rattle.abi_layout.specs.declared.scalar.Width.TheVariants as width

-- the integer of this distance from 0, below it where `negative`, is one of the width and the sign
abbrev pub IsWithin : Width → Bool → ℕ → Bool → Type 0
IsWithin w signed magnitude negative = in_width w signed magnitude negative ≡ true

-- the kind of that width, with a sign or without
abbrev pub kind_of : Width → Bool → IntKind
kind_of width.One false = kind.U8
kind_of width.Two false = kind.U16
kind_of width.Four false = kind.U32
kind_of width.Eight false = kind.U64
kind_of width.Sixteen false = kind.U128
kind_of width.One true = kind.I8
kind_of width.Two true = kind.I16
kind_of width.Four true = kind.I32
kind_of width.Eight true = kind.I64
kind_of width.Sixteen true = kind.I128

-- the primitive whose values are all integers of the kind
abbrev pub primitive_of : IntKind → Primitive
primitive_of kind.U8 = primitive.U8
primitive_of kind.U16 = primitive.U16
primitive_of kind.U32 = primitive.U32
primitive_of kind.U64 = primitive.U64
primitive_of kind.U128 = primitive.U128
primitive_of kind.Usize = primitive.Usize
primitive_of kind.I8 = primitive.I8
primitive_of kind.I16 = primitive.I16
primitive_of kind.I32 = primitive.I32
primitive_of kind.I64 = primitive.I64
primitive_of kind.I128 = primitive.I128
primitive_of kind.Isize = primitive.Isize
