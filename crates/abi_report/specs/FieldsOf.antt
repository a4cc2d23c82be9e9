-- What is left of the fields that are gone through.
use Rattle.std.specs.Prelude.{List}
use Rattle.abi_report.specs.declared.fields.Fields.{Fields}
use Rattle.abi_report.specs.declared.type_report.FieldReport.{FieldReport}

abbrev pub left : Fields → List FieldReport
left fs = fs.rest.now
