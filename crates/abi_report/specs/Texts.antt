-- How a report is written.
use Rattle.std.specs.Prelude.{ℕ, List, [], ◌++◌, codes, decimal}
use Rattle.abi_report.specs.declared.ty_ty.TyTy.{TyTy}
use Rattle.abi_report.specs.Kinds.{kind_row}
use Rattle.abi_report.specs.Reports.{ReportTree, FieldTrees, Named, report, no_field, field}

-- what stands before the fields
unfoldable pub opening_text : TyTy → List ℕ → List ℕ → ℕ → List ℕ
opening_text kind name module_name version =
    (kind_row kind).0 ++ codes " " ++ module_name ++ codes " :: " ++ name
    ++ codes " (version" ++ decimal version ++ codes ") {"

abbrev mutual
  pub text : ReportTree → List ℕ
  text (report name module_name fields kind version) =
      opening_text kind name module_name version ++ fields_text fields ++ codes "}"

  pub fields_text : FieldTrees → List ℕ
  fields_text no_field = []
  fields_text (field name r fs) = name ++ codes ": " ++ text r ++ codes ", " ++ fields_text fs

abbrev pub field_text : Named → List ℕ
field_text f = f.0 ++ codes ": " ++ text f.1 ++ codes ", "
