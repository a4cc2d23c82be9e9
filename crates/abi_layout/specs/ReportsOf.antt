-- The report of a description.
use Rattle.std.specs.Prelude.{◌≡◌, ℕ, List, ◌++◌, Bool, true, false, ◌&&◌, not, None, codes, decimal, length, take, ◌^◌, nat_lt, IsTrue}
use Rattle.std.specs.Str.{bytes_eq}
use Rattle.abi_num.specs.declared.target.Target.{Target}
use Rattle.abi_report.specs.declared.ty_ty.TyTy.TheVariants as tyty
use Rattle.abi_report.specs.Identifier.{identifier}
use Rattle.abi_report.specs.Reports.{ReportTree, FieldTrees, report, no_field, field}
use Rattle.abi_det.specs.Offers.{Rules}
use Rattle.abi_layout.specs.CoreSums.{payload_first}
use Rattle.abi_layout.specs.Faults.{desc_fault}
use Rattle.abi_layout.specs.Frames.{written_frame}
use Rattle.abi_layout.specs.Names.{report_name, report_module, stable_impls}
use Rattle.abi_layout.specs.Trees as trees
use Rattle.abi_layout.specs.Trees.{Tree, Branches, Label, sides}
use Rattle.abi_layout.specs.declared.desc.PointerKind.{PointerKind}
use Rattle.abi_layout.specs.declared.desc.PointerKind.TheVariants as pointers
use Rattle.abi_layout.specs.declared.desc.WrapKind.{WrapKind}
use Rattle.abi_layout.specs.declared.desc.WrapKind.TheVariants as wrapper
use Rattle.abi_layout.specs.declared.part.Sort.{Sort}
use Rattle.abi_layout.specs.declared.part.Sort.TheVariants as sort

abbrev pub one_field : List ℕ → ReportTree → FieldTrees
one_field name r = field name r no_field

-- fields, and others after them
abbrev pub followed : FieldTrees → FieldTrees → FieldTrees
followed no_field rest = rest
followed (field name r fs) rest = field name r (followed fs rest)

-- a struct of version 0
abbrev pub plain : List ℕ → List ℕ → FieldTrees → ReportTree
plain name module_name fields = report name module_name fields tyty.Struct 0

-- what holds another type as its field `inner`
abbrev pub holder : List ℕ → List ℕ → ReportTree → ReportTree
holder name module_name r = plain name module_name (one_field (codes "inner") r)

abbrev pub name_in : ReportTree → List ℕ
name_in (report name module_name fields kind version) = name

-- ---- arrays, wrappers, pointers

-- the length in decimal
unfoldable pub array_name : ℕ → List ℕ
array_name len = codes "[T;" ++ decimal len ++ codes "]"

abbrev pub pointer_name : PointerKind → List ℕ
pointer_name pointers.ConstPtr = codes "*const"
pointer_name pointers.MutPtr = codes "*mut"
pointer_name pointers.AtomicPtr = codes "core::sync::atomic::AtomicPtr"
pointer_name pointers.NonNull = codes "core::ptr::NonNull"
pointer_name pointers.Ref = codes "&"
pointer_name pointers.RefMut = codes "&mut"

abbrev pub wrap_report : WrapKind → ReportTree → ReportTree
wrap_report wrapper.ManuallyDrop r = plain (name_in r) stable_impls no_field
wrap_report wrapper.MaybeUninit r = plain (name_in r) stable_impls no_field
wrap_report wrapper.UnsafeCell r = plain (name_in r) stable_impls no_field
wrap_report wrapper.Pin r = holder (codes "core::pin::Pin") stable_impls r
wrap_report wrapper.NotPod r = holder (codes "NotPod") (codes "stabby_abi::istable") r
wrap_report wrapper.OrInfallible r = r

-- ---- sums

-- a packed result
abbrev pub result_report : ReportTree → ReportTree → ReportTree
result_report ok err =
    report (codes "Result") (codes "stabby_abi::result")
    (field (codes "Ok") ok (one_field (codes "Err") err)) (tyty.Enum (codes "stabby")) 1

-- an option holds a result of its contents and what `None` has
abbrev pub sum_report : Sort → ReportTree → ReportTree → ReportTree
sum_report sort.OfResult ok err = result_report ok err
sum_report sort.OfOption some none =
    holder (codes "Option") (codes "stabby_abi::option") (result_report some none)

-- a sum of the compiler's has its payload as its only field
abbrev pub core_report : Sort → Bool → ReportTree → ReportTree
core_report sort.OfResult first r =
    report (codes "Result") (codes "core::result")
    (one_field (sides (codes "Ok") (codes "Err") first) r) (tyty.Enum (codes "rust")) 0
core_report sort.OfOption first r =
    report (codes "Option") (codes "core::option") (one_field (codes "Some") r)
    (tyty.Enum (codes "rust")) 0

-- ---- descriptions

abbrev mutual
  pub report_tree : Rules → Target → Tree → ReportTree
  report_tree rules target (trees.prim p) = plain (report_name target p) (report_module p) no_field
  report_tree rules target (trees.struct label fs align) =
      report label.name label.module_name (field_reports rules target fs) tyty.Struct label.version
  report_tree rules target (trees.array item len) =
      holder (array_name len) stable_impls (report_tree rules target item)
  report_tree rules target (trees.union side) =
      plain (codes "Union") (codes "stabby_abi::istable") no_field
  report_tree rules target (trees.sum names side) =
      sum_report names (report_tree rules target (side true))
      (report_tree rules target (side false))
  report_tree rules target (trees.core names side) =
      let first : Bool =
      payload_first (written_frame rules target (side true))
      (written_frame rules target (side false)) in
      core_report names first
      (sides (report_tree rules target (side true)) (report_tree rules target (side false)) first)
  report_tree rules target (trees.wrap kind t) = wrap_report kind (report_tree rules target t)
  report_tree rules target (trees.stable_if value condition) = report_tree rules target value
  report_tree rules target (trees.pointer kind t) =
      holder (pointer_name kind) stable_impls (report_tree rules target t)
  report_tree rules target (trees.no_niches size align niches indirections) =
      plain (codes "NoNiches") (codes "stabby_abi") no_field
  report_tree rules target (trees.leaf l) = plain l.name l.«module» no_field

  pub field_reports : Rules → Target → Branches → FieldTrees
  field_reports rules target trees.none = no_field
  field_reports rules target (trees.field name t fs) =
      field name (report_tree rules target t) (field_reports rules target fs)

-- what `Err` of each core result holds has a layout, which tells whether it is the payload
abbrev mutual
  pub HasSides : Rules → Target → Tree → Type 0
  HasSides rules target (trees.prim p) = Unit {0}
  HasSides rules target (trees.struct label fs align) = HaveSides rules target fs
  HasSides rules target (trees.array item len) = HasSides rules target item
  HasSides rules target (trees.union side) = Unit {0}
  HasSides rules target (trees.sum sort.OfResult side) =
      HasSides rules target (side true) × HasSides rules target (side false)
  HasSides rules target (trees.sum sort.OfOption side) = HasSides rules target (side true)
  HasSides rules target (trees.core sort.OfResult side) =
      HasSides rules target (side true) × HasSides rules target (side false)
      × (desc_fault rules target (side false) ≡ None)
  HasSides rules target (trees.core sort.OfOption side) = HasSides rules target (side true)
  HasSides rules target (trees.wrap kind t) = HasSides rules target t
  HasSides rules target (trees.stable_if value condition) = HasSides rules target value
  HasSides rules target (trees.pointer kind t) = HasSides rules target t
  HasSides rules target (trees.no_niches size align niches indirections) = Unit {0}
  HasSides rules target (trees.leaf l) = Unit {0}

  pub HaveSides : Rules → Target → Branches → Type 0
  HaveSides rules target trees.none = Unit {0}
  HaveSides rules target (trees.field name t fs) =
      HasSides rules target t × HaveSides rules target fs

-- ---- plain descriptions

-- the prefix of the modules in `stabby_abi`
abbrev pub inside_stabby : List ℕ
inside_stabby = codes "stabby_abi::"

-- neither `stabby_abi` nor a module in it
abbrev pub is_users : List ℕ → Bool
is_users module_name =
    not (bytes_eq module_name (codes "stabby_abi"))
    && not (bytes_eq (take (length inside_stabby) module_name) inside_stabby)

-- built of primitives, arrays, packed sums, and structs of users' modules without a requested alignment
abbrev mutual
  pub is_plain : Tree → Bool
  is_plain (trees.prim p) = true
  is_plain (trees.struct label fs None) = is_users label.module_name && are_plain fs
  is_plain (trees.array item len) = nat_lt len (2 ^ 64) && is_plain item
  is_plain (trees.sum names side) = is_plain (side true) && is_plain (side false)
  is_plain _ = false

  pub are_plain : Branches → Bool
  are_plain trees.none = true
  are_plain (trees.field name t fs) = is_plain t && are_plain fs

-- ---- laws

-- equal reports of plain descriptions tell equal layouts, in every component
abbrev pub PlainLaw : Type 0
PlainLaw =
    (rules : Rules) (target : Target) (t s : Tree) → IsTrue (is_plain t) → IsTrue (is_plain s)
    → report_tree rules target t ≡ report_tree rules target s
    → written_frame rules target t ≡ written_frame rules target s

-- equal reports have equal identifiers on one target
abbrev pub IdentifierLaw : Type 0
IdentifierLaw =
    (target : Target) (r s : ReportTree) → r ≡ s → identifier target r ≡ identifier target s
