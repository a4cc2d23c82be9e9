use Rattle.std.proofs.Common.{rules, ◌≡◌, ◌∙◌, ap, sym}
use Rattle.std.specs.Str.{bytes_eq}
use Rattle.std.proofs.lemmas.Slice.Eq.{bytes_eq-Decides}
use Rattle.abi_det.specs.Offers.{One}
use Rattle.abi_layout.specs.Trees.{tree}
use Rattle.abi_pack.specs.View.{plain}
use Rattle.abi_tool.specs.Lines.{value_line}
use Rattle.abi_tool.proofs.Made.{same_value}
use Rattle.abi_tool.proofs.made_outcome.is_read_back.Goals as goal

pub returns-clause-ok : goal.returns-clause-ok
returns-clause-ok c =
    let t = tree c.args.desc.now in
    let read = c.in_ok-again.ensures One c.args.target.now t c.in_ok-plan.ensures.ok in
    let same : plain c.in_ok-again.again ≡ plain c.args.value.now =
    same_value c.args.target.now t (plain c.args.value.now) (plain c.in_ok-again.again) c.args.bytes.now c.requires.faultless c.requires.image read in
    let compared : c.eq-3.result ≡ bytes_eq c.in_ok-value_line.field-0 c.in_ok-value_line-2.field-0 = search rules in
    compared ∙ (bytes_eq-Decides c.in_ok-value_line.field-0 c.in_ok-value_line-2.field-0).1 (c.in_ok-value_line.ensures ∙ ap value_line same ∙ sym c.in_ok-value_line-2.ensures)
