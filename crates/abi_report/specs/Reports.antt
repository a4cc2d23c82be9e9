-- Reports as plain trees.
use Rattle.std.specs.Prelude.{ℕ, List, [], ◌∷◌, map}
use Rattle.abi_report.specs.declared.ty_ty.TyTy.{TyTy}
use Rattle.abi_report.specs.declared.type_report.TypeReport.{TypeReport, fold-TypeReport}
use Rattle.abi_report.specs.declared.type_report.FieldReport.{FieldReport, fold-FieldReport}
use Rattle.abi_report.specs.declared.type_report.FieldReport.TheOpen.{FieldReport-F, TypeReport-F}

mutual
  pub data ReportTree : Type 0 where
    -- name, module, fields, kind and version
    report : List ℕ → List ℕ → FieldTrees → TyTy → ℕ → ReportTree

  pub data FieldTrees : Type 0 where
    no_field : FieldTrees
    -- the first field's name and report, and the other fields
    field : List ℕ → ReportTree → FieldTrees → FieldTrees

-- a field's name and report
abbrev pub Named : Type 0
Named = List ℕ × ReportTree

abbrev pub fields_of : List Named → FieldTrees
fields_of [] = no_field
fields_of (f ∷ fs) = field f.0 f.1 (fields_of fs)

abbrev pub field_step : FieldReport-F Named ReportTree → Named
field_step f = (f.name, f.ty)

abbrev pub report_step : TypeReport-F Named ReportTree → ReportTree
report_step r = report r.name r.«module» (fields_of r.fields) r.tyty r.version

abbrev pub tree : TypeReport → ReportTree
tree = fold-TypeReport Named ReportTree field_step report_step

abbrev pub named : FieldReport → Named
named = fold-FieldReport Named ReportTree field_step report_step

abbrev pub field_trees : List FieldReport → FieldTrees
field_trees fs = fields_of (map named fs)

-- the fields of a report
abbrev pub fields_in : ReportTree → FieldTrees
fields_in (report name module_name fields kind version) = fields
