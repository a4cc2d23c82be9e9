use Rattle.std.proofs.Common.{rules, ◌≡◌, ◌∙◌, ap, sym, subst, slice_index, List, ℕ, Result, Ok, Err, arith}
use Rattle.abi_det.specs.Offers.{One}
use Rattle.abi_layout.specs.Trees.{tree}
use Rattle.abi_pack.specs.ByteMap.{AreBytes}
use Rattle.abi_pack.specs.EditLists.{plain_edits}
use Rattle.abi_pack.specs.Jobs.{AreEditsOf, AreRefused}
use Rattle.abi_pack.proofs.Lists.{written_back}
use Rattle.abi_tool.specs.Lines.{bytes_line}
use Rattle.abi_tool.specs.Outcomes.{IsOutcome, of_packing, of_reading, edited_outcome, edit_outcome}
use Rattle.abi_tool.specs.declared.job_error.JobError.{JobError}
use Rattle.abi_tool.proofs.Outcomes.{unread, edit_refused, edit_done}
use Rattle.abi_tool.proofs.outcome.edit_outcome.Goals as goal

pub returns-in_err-check_shown : goal.returns-in_err-check_shown
returns-in_err-check_shown c =
    let t = tree c.args.desc.now in
    let es = plain_edits c.args.edits.now in
    let small : AreBytes (slice_index c.args.bytes.now) = λ i. omega (arith, c.type_inv.bytes i) in
    let of = c.in_ok-plan.ensures.ok in
    let error : c.from_residual-in_err-check_shown.result ≡ Err (of_reading c.in_err-check_shown.field-0.0) = search rules in
    let P : Result (List ℕ) JobError → Type 0 = λ r. IsOutcome (edit_outcome c.args.target.now t c.args.bytes.now es) r in
    subst P (sym error)
    (unread (edited_outcome c.args.target.now t c.args.bytes.now es) c.args.target.now t c.args.bytes.now of.faultless c.in_err-check_shown.field-0.0 small
    (c.in_err-check_shown.ensures.err One c.args.target.now t of))

pub returns-in_err-edit_each : goal.returns-in_err-edit_each
returns-in_err-edit_each c =
    let t = tree c.args.desc.now in
    let es = plain_edits c.args.edits.now in
    let small : AreBytes (slice_index c.args.bytes.now) = λ i. omega (arith, c.type_inv.bytes i) in
    let of = c.in_ok-plan.ensures.ok in
    let error : c.from_residual-in_err-edit_each.result ≡ Err (of_packing c.in_err-edit_each.field-0.0) = search rules in
    let P : Result (List ℕ) JobError → Type 0 = λ r. IsOutcome (edit_outcome c.args.target.now t c.args.bytes.now es) r in
    let same : c.deref_mut.result.now ≡ c.args.bytes.now = c.deref_mut.ensures.value ∙ c.in-Ok.ensures.items in
    subst P (sym error)
    (edit_refused c.args.target.now t c.args.bytes.now es c.in_err-edit_each.field-0.0 of.faultless small (c.in_ok-check_shown.ensures.ok One c.args.target.now t of)
    (subst (λ bs. AreRefused One c.args.target.now t es bs c.in_err-edit_each.field-0.0) same (c.in_err-edit_each.ensures.err One c.args.target.now t of)))

pub returns : goal.returns
returns c =
    let t = tree c.args.desc.now in
    let es = plain_edits c.args.edits.now in
    let small : AreBytes (slice_index c.args.bytes.now) = λ i. omega (arith, c.type_inv.bytes i) in
    let of = c.in_ok-plan.ensures.ok in
    let same : c.deref_mut.result.now ≡ c.args.bytes.now = c.deref_mut.ensures.value ∙ c.in-Ok.ensures.items in
    let back = written_back c.edit_each.new.bytes c.in-Ok.edited.items c.in-Ok.edited.len (c.edit_each.auto.bytes ∙ c.deref_mut.ensures.len) in
    edit_done c.args.target.now t c.args.bytes.now es c.edit_each.new.bytes of.faultless small (c.in_ok-check_shown.ensures.ok One c.args.target.now t of)
    (subst (λ bs. AreEditsOf One c.args.target.now t es bs c.edit_each.new.bytes) same (c.in_ok-edit_each.ensures.ok One c.args.target.now t of))
    ∙ ap Ok (ap bytes_line (sym (c.deref.ensures.value ∙ back)) ∙ sym c.in_ok-bytes_text.ensures)
