-- The names of primitives, and those by which reports name them.
use Rattle.std.specs.Prelude.{ℕ, List, [], ◌++◌, Bool, codes, ◌==◌, if◌then◌else◌}
use Rattle.abi_num.specs.declared.target.Target.{Target}
use Rattle.abi_layout.specs.Forms.{form_of}
use Rattle.abi_layout.specs.Prims.{is_signed}
use Rattle.abi_layout.specs.declared.prim.Form.{Form}
use Rattle.abi_layout.specs.declared.prim.Form.TheVariants as form
use Rattle.abi_layout.specs.declared.prim.IntKind.{IntKind}
use Rattle.abi_layout.specs.declared.prim.IntKind.TheVariants as kind
use Rattle.abi_layout.specs.declared.prim.Primitive.{Primitive}
use Rattle.abi_layout.specs.declared.prim.Primitive.TheVariants as prim

-- ---- kinds of integers

-- the number of bits, or `size` for that of a pointer
abbrev pub bits_text : IntKind → List ℕ
bits_text kind.U8 = codes "8"
bits_text kind.U16 = codes "16"
bits_text kind.U32 = codes "32"
bits_text kind.U64 = codes "64"
bits_text kind.U128 = codes "128"
bits_text kind.Usize = codes "size"
bits_text kind.I8 = codes "8"
bits_text kind.I16 = codes "16"
bits_text kind.I32 = codes "32"
bits_text kind.I64 = codes "64"
bits_text kind.I128 = codes "128"
bits_text kind.Isize = codes "size"

abbrev pub letter : IntKind → List ℕ
letter k = if is_signed k then codes "i" else codes "u"

abbrev pub capital : IntKind → List ℕ
capital k = if is_signed k then codes "I" else codes "U"

abbrev pub kind_name : IntKind → List ℕ
kind_name k = letter k ++ bits_text k

-- as it stands in the names of other types
abbrev pub capital_name : IntKind → List ℕ
capital_name k = capital k ++ bits_text k

-- ---- primitives: the path to a name, and the name before the kind

abbrev pub Words : Type 0
Words = List ℕ × List ℕ

-- of those whose form does not tell the name
abbrev pub own_words : Primitive → Words
own_words prim.Unit = ([], codes "()")
own_words prim.PhantomData = (codes "core::marker::", codes "PhantomData")
own_words prim.PhantomPinned = (codes "core::marker::", codes "PhantomPinned")
own_words prim.CVoid = (codes "core::ffi::", codes "c_void")
own_words prim.Bool = ([], codes "bool")
own_words prim.Ordering = (codes "core::cmp::", codes "Ordering")
own_words prim.AtomicBool = (codes "core::sync::atomic::", codes "AtomicBool")
own_words prim.OwnedFd = (codes "std::os::fd::", codes "OwnedFd")
own_words prim.BorrowedFd = (codes "std::os::fd::", codes "BorrowedFd")
own_words prim.FnPtr = (codes "extern \"C\" ", codes "fn")
own_words _ = ([], [])

abbrev pub form_words : Words → Form → Words
form_words own (form.Integer k) = ([], [])
form_words own (form.Atomic k) = (codes "core::sync::atomic::", codes "Atomic")
form_words own (form.NonZero k) = (codes "core::num::", codes "NonZero")
form_words own (form.NonMax k) = ([], codes "NonMax")
form_words own (form.NonX k magnitude negative) = ([], codes "NonX")
form_words own _ = own

abbrev pub words : Primitive → Words
words p = form_words (own_words p) (form_of p)

abbrev pub kind_part : Form → List ℕ
kind_part (form.Integer k) = kind_name k
kind_part (form.Atomic k) = capital_name k
kind_part (form.NonZero k) = capital_name k
kind_part (form.NonMax k) = capital_name k
kind_part (form.NonX k magnitude negative) = capital_name k
kind_part _ = []

-- as documents name it
abbrev pub prim_name : Primitive → List ℕ
prim_name p = (words p).1 ++ kind_part (form_of p)

-- ---- in reports

-- what tells the alignment of a `u128`: whether it is 8
abbrev pub note : Bool → Form → List ℕ
note is_8 (form.Integer kind.U128) = if is_8 then codes "(8)" else codes "(16)"
note is_8 _ = []

unfoldable pub noted_name : Bool → Primitive → List ℕ
noted_name is_8 p = (words p).0 ++ prim_name p ++ note is_8 (form_of p)

abbrev pub report_name : Target → Primitive → List ℕ
report_name target p = noted_name (target.u128_align == 8) p

abbrev pub stable_impls : List ℕ
stable_impls = codes "stabby_abi::stable_impls"

abbrev pub form_module : Form → List ℕ
form_module (form.NonMax k) = codes "stabby_abi::num"
form_module (form.NonX k magnitude negative) = codes "stabby_abi::num"
form_module _ = stable_impls

abbrev pub report_module : Primitive → List ℕ
report_module p = form_module (form_of p)
