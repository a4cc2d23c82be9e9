-- What `Hash` feeds of a report: name, module, fields, version, kind.
use Rattle.std.specs.Prelude.{◌≡◌, [], ◌++◌, true}
use Rattle.std.specs.Hash.{HashWrites}
use Rattle.std.specs.Hash as fed
use Rattle.std.proofs.Common.{ap}
use Rattle.abi_report.specs.declared.ty_ty.TyTy.{TyTy}
use Rattle.abi_report.specs.declared.ty_ty.TyTy.TheVariants.{Struct, Enum, Union}
use Rattle.abi_report.specs.Equality.{same, same_named, decides, named_decides}
use Rattle.abi_report.specs.Kinds.{same_kind, kind_decides}
use Rattle.abi_report.specs.Reports.{ReportTree, FieldTrees, Named, report, no_field, field}

-- the number of the kind, and what an enum holds
abbrev pub kind_fed : TyTy → HashWrites
kind_fed Struct = fed.u8 0
kind_fed Union = fed.u8 1
kind_fed (Enum rules) = fed.u8 2 ++ fed.str rules

abbrev mutual
  pub report_fed : ReportTree → HashWrites
  report_fed (report name module_name fields kind version) =
      fed.str name ++ fed.str module_name ++ fields_fed fields ++ fed.u32 version ++ kind_fed kind

  pub fields_fed : FieldTrees → HashWrites
  fields_fed no_field = []
  fields_fed (field name r fs) = fed.str name ++ report_fed r ++ fields_fed fs

abbrev pub field_fed : Named → HashWrites
field_fed f = fed.str f.0 ++ report_fed f.1

pub kind_alike : (k l : TyTy) → same_kind k l ≡ true → kind_fed k ≡ kind_fed l
kind_alike k l e = ap kind_fed ((kind_decides k l).0 e)

pub report_alike : (r s : ReportTree) → same r s ≡ true → report_fed r ≡ report_fed s
report_alike r s e = ap report_fed ((decides r s).0 e)

pub field_alike : (f g : Named) → same_named f g ≡ true → field_fed f ≡ field_fed g
field_alike f g e = ap field_fed ((named_decides f g).0 e)
