use Rattle.std.proofs.Common.{rules, ◌≡◌, ◌∙◌, ap}
use Rattle.abi_report.specs.Reports.{field_trees, tree as reported}
use Rattle.abi_det.specs.Offers.{One}
use Rattle.abi_layout.specs.ReportsOf.{followed, one_field, report_tree, field_reports}
use Rattle.abi_layout.specs.Trees.{tree, branches}
use Rattle.abi_layout.proofs.FieldReports.{one_more, sides_at}
use Rattle.abi_layout.proofs.reports.+reports.Goals as goal

pub report_fields-loop-field-preserved : goal.report_fields-loop-field-preserved
report_fields-loop-field-preserved t c =
    let f = c.field-item.result in
    let fields = c.args.fields.now in
    let here : reported c.in_ok-ty.ty ≡ report_tree One c.args.target.now (tree f.ty) = search rules in
    let pushed : field_trees c.push_field.new.fields ≡ followed (field_trees c.loop-field.reports) (one_field f.name (reported c.in_ok-ty.ty)) = search rules in (
      (sides_at One c.args.target.now fields c.loop-field.field-index f c.loop-field-test.true c.field-item.is c.loop-field.invariant.0).1,
      one_more One c.args.target.now fields c.loop-field.field-index f c.loop-field.reports c.push_field.new.fields (field_reports One c.args.target.now (branches fields))
          c.loop-field-test.true c.field-item.is (pushed ∙ ap (λ r. followed (field_trees c.loop-field.reports) (one_field f.name r)) here) c.loop-field.invariant.1,
    )
