use Rattle.std.proofs.Common.{◌+◌, ◌∙◌, drop, Some, ap, sym}
use Rattle.abi_pack.specs.EditLists.{PlainEdit, plain_edits}
use Rattle.abi_pack.specs.View.{plain}
use Rattle.abi_pack.proofs.EditSteps.{edits_at, edits_end, editing_first, editing_next, editing_refused, editing_last}
use Rattle.abi_pack.proofs.jobs.edit_each.Goals as goal

pub loop-number-init : goal.loop-number-init
loop-number-init c = λ rules target t of. editing_first rules target t (plain_edits c.args.edits.now) c.args.bytes.now (c.requires.shown rules target t of)

pub edit-requires : goal.edit-requires
edit-requires c = record { shown = λ rules target t of. (c.loop-number.invariant rules target t of).0 }

pub returns-in-Err-clause-err : goal.returns-in-Err-clause-err
returns-in-Err-clause-err c =
    let edit = c.index-edits-number.result in
    let e : PlainEdit = record { path = c.as_slice.result.now; value = plain edit.value } in
    let rest = plain_edits (drop (c.loop-number.number + 1) c.args.edits.now) in
    let cons = edits_at c.args.edits.now c.loop-number.number edit c.as_slice.result.now c.loop-number-test.true c.index-edits-number.is c.as_slice.ensures in
    λ rules target t of v h.
    editing_refused rules target t (plain_edits c.args.edits.now) c.args.bytes.now e rest _ c.loop-number.number c.loop-number.bytes c.in-Err.error cons
    (c.loop-number.invariant rules target t of) (c.in-Err.ensures.err rules target t of) v h ∙ ap Some (sym c.of_edit.ensures)

pub loop-number-preserved : goal.loop-number-preserved
loop-number-preserved c =
    let edit = c.index-edits-number.result in
    let e : PlainEdit = record { path = c.as_slice.result.now; value = plain edit.value } in
    let rest = plain_edits (drop (c.loop-number.number + 1) c.args.edits.now) in
    let cons = edits_at c.args.edits.now c.loop-number.number edit c.as_slice.result.now c.loop-number-test.true c.index-edits-number.is c.as_slice.ensures in
    λ rules target t of.
    editing_next rules target t (plain_edits c.args.edits.now) c.args.bytes.now e rest _ c.loop-number.number c.loop-number.bytes c.edit.new.bytes cons
    (c.loop-number.invariant rules target t of) (c.in_default.ensures.ok rules target t of)

pub returns-clause-ok : goal.returns-clause-ok
returns-clause-ok c =
    let none = edits_end c.args.edits.now c.loop-number.number c.loop-number-test.false in
    λ rules target t of.
    editing_last rules target t (plain_edits c.args.edits.now) c.args.bytes.now _ c.loop-number.number c.loop-number.bytes none
    (c.loop-number.invariant rules target t of)
