use Rattle.std.proofs.Common.{◌≡◌, drop}
use Rattle.abi_det.specs.Offers.{One}
use Rattle.abi_report.specs.Reports.{field_trees}
use Rattle.abi_layout.specs.ReportsOf.{HaveSides, followed, field_reports}
use Rattle.abi_layout.specs.Trees.{branches}
use Rattle.abi_layout.proofs.reports.+reports.Given as goal

-- the fields so far are reported
abbrev pub invariant-report_fields-loop-field : goal.invariant-report_fields-loop-field
invariant-report_fields-loop-field l =
    HaveSides One l.target (branches (drop l.field-index l.fields))
    × (followed (field_trees l.reports) (field_reports One l.target (branches (drop l.field-index l.fields)))
    ≡ field_reports One l.target (branches l.fields))
