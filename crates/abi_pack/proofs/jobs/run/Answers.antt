use Rattle.std.proofs.Common.{◌∙◌}
use Rattle.abi_det.specs.Offers.{One}
use Rattle.abi_layout.specs.Trees.{tree}
use Rattle.abi_pack.specs.EditLists.{plain_edits}
use Rattle.abi_pack.specs.View.{plain}
use Rattle.abi_pack.proofs.Lists.{written_back}
use Rattle.abi_pack.proofs.Promised.{desc_to_run, wrong_value, packed_shown, run_done, run_refused}
use Rattle.abi_pack.proofs.jobs.run.Goals as goal

pub returns-in_err-plan-clause-err : goal.returns-in_err-plan-clause-err
returns-in_err-plan-clause-err c =
    desc_to_run One c.args.target.now (tree c.args.desc.now) (plain c.args.value.now) (plain_edits c.args.edits.now) c.in_err-plan.field-0.0 c.from_residual.result c.in_err-plan.ensures.err c.from_residual.ensures.1

pub returns-then-not-fits-clause-err : goal.returns-then-not-fits-clause-err
returns-then-not-fits-clause-err c =
    λ _. wrong_value c.in_ok-plan.plan One c.args.target.now (tree c.args.desc.now) (plain c.args.value.now) (plain_edits c.args.edits.now) c.in_ok-plan.ensures.ok c.if-not-fits.ensures

pub edit_each-requires-clause-shown : goal.edit_each-requires-clause-shown
edit_each-requires-clause-shown c =
    packed_shown c.in_ok-plan.plan (plain c.args.value.now) c.deref_mut.result.now c.if-not-fits.ensures (c.deref_mut.ensures.value ∙ c.in_ok-bytes.ensures.bytes)

pub returns-in-Ok-clause-faultless : goal.returns-in-Ok-clause-faultless
returns-in-Ok-clause-faultless c =
    (run_done c.in_ok-plan.plan One c.args.target.now (tree c.args.desc.now) (plain c.args.value.now) (plain_edits c.args.edits.now) c.deref_mut.result.now c.edit_each.new.bytes
    c.in_ok-plan.ensures.ok c.if-not-fits.ensures (c.deref_mut.ensures.value ∙ c.in_ok-bytes.ensures.bytes) c.in-Ok.ensures.ok).faultless

pub returns-in-Ok-clause-image : goal.returns-in-Ok-clause-image
returns-in-Ok-clause-image c =
    let made =
    run_done c.in_ok-plan.plan One c.args.target.now (tree c.args.desc.now) (plain c.args.value.now) (plain_edits c.args.edits.now) c.deref_mut.result.now c.edit_each.new.bytes
    c.in_ok-plan.ensures.ok c.if-not-fits.ensures (c.deref_mut.ensures.value ∙ c.in_ok-bytes.ensures.bytes) c.in-Ok.ensures.ok in
    let back = written_back c.edit_each.new.bytes c.in_ok-bytes.bytes.items c.in_ok-bytes.bytes.len (c.edit_each.auto.bytes ∙ c.deref_mut.ensures.len) in
    c.into_image.ensures ∙ rw (c.from.ensures, back) made.image

pub returns-in-Ok-clause-canonical : goal.returns-in-Ok-clause-canonical
returns-in-Ok-clause-canonical c =
    let made =
    run_done c.in_ok-plan.plan One c.args.target.now (tree c.args.desc.now) (plain c.args.value.now) (plain_edits c.args.edits.now) c.deref_mut.result.now c.edit_each.new.bytes
    c.in_ok-plan.ensures.ok c.if-not-fits.ensures (c.deref_mut.ensures.value ∙ c.in_ok-bytes.ensures.bytes) c.in-Ok.ensures.ok in
    let back = written_back c.edit_each.new.bytes c.in_ok-bytes.bytes.items c.in_ok-bytes.bytes.len (c.edit_each.auto.bytes ∙ c.deref_mut.ensures.len) in
    rw (c.into_image.ensures, c.from.ensures, back) made.canonical

pub returns-in-Err-clause-err : goal.returns-in-Err-clause-err
returns-in-Err-clause-err c =
    run_refused c.in_ok-plan.plan One c.args.target.now (tree c.args.desc.now) (plain c.args.value.now) (plain_edits c.args.edits.now) c.deref_mut.result.now c.in-Err.error
    c.in_ok-plan.ensures.ok c.if-not-fits.ensures (c.deref_mut.ensures.value ∙ c.in_ok-bytes.ensures.bytes) c.in-Err.ensures.err
