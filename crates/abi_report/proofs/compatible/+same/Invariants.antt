use Rattle.std.proofs.Common.{◌≡◌, length, drop}
use Rattle.abi_report.specs.Equality.{same_fields}
use Rattle.abi_report.specs.Reports.{field_trees}
use Rattle.abi_report.proofs.compatible.+same.Given as goal

-- what is left is the same on both sides exactly where the whole is
abbrev pub invariant-are_same-loop-i : goal.invariant-are_same-loop-i
invariant-are_same-loop-i l =
    (length l.a ≡ length l.b) × (same_fields (field_trees (drop l.i l.a)) (field_trees (drop l.i l.b)) ≡ same_fields (field_trees l.a) (field_trees l.b))
