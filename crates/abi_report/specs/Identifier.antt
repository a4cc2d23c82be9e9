-- The identifier of a report.
use Rattle.std.specs.Prelude.{ℕ, List, [], ◌++◌, take, bit_xor}
use Rattle.std.specs.Int.{from_le_bytes, w64}
use Rattle.sha2.specs.Sha256.{sha256}
use Rattle.sha2.specs.declared.Sha256.{Sha256}
use Rattle.sha2.specs.Hashers.{Holds256}
use Rattle.abi_num.specs.declared.target.Target.{Target}
use Rattle.abi_num.specs.Target.{arch_info}
use Rattle.abi_report.specs.Kinds.{kind_row}
use Rattle.abi_report.specs.Reports.{ReportTree, FieldTrees, Named, report, no_field, field}

-- the hashed bytes: module, name and kind, then each field's name and hashed bytes; the version is none of them
abbrev mutual
  pub hashed : ReportTree → List ℕ
  hashed (report name module_name fields kind version) =
      module_name ++ name ++ (kind_row kind).1 ++ fields_hashed fields

  pub fields_hashed : FieldTrees → List ℕ
  fields_hashed no_field = []
  fields_hashed (field name r fs) = name ++ hashed r ++ fields_hashed fs

abbrev pub field_hashed : Named → List ℕ
field_hashed f = f.0 ++ hashed f.1

-- the hasher has got these bytes after what it had got before
abbrev pub Got : Sha256 → Sha256 → List ℕ → Type 0
Got before after bytes = (m : List ℕ) → Holds256 before m → Holds256 after (m ++ bytes)

-- the first eight bytes of the digest, exclusive-or those of the target, each read with the least byte first
abbrev pub identifier : Target → ReportTree → ℕ
identifier target r = bit_xor (from_le_bytes w64 (take 8 (sha256 (hashed r)))) (from_le_bytes w64 (arch_info target))
