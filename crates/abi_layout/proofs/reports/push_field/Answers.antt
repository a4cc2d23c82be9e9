use Rattle.std.proofs.Common.{rules, ◌≡◌, ◌∙◌, ap}
use Rattle.abi_report.specs.Reports.{tree as reported}
use Rattle.abi_layout.proofs.FieldReports.{named_as, one_pushed}
use Rattle.abi_layout.proofs.reports.push_field.Goals as goal

pub returns : goal.returns
returns c =
    let name : c.in_ok-name.name ≡ c.args.name.now = search rules in
    one_pushed c.args.fields.now c.push.new.self _ c.args.name.now c.args.ty c.in_ok-push.ensures.ok (named_as _ _ ∙ ap (λ n. (n, reported c.args.ty)) name)
