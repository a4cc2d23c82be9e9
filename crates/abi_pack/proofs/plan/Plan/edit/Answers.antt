use Rattle.std.proofs.Common.{◌∙◌, sym, arith}
use Rattle.abi_pack.specs.View.{plain}
use Rattle.abi_pack.proofs.PlanEdits.{fault_reaches, plan_shown_length, plan_refused, plan_edited}
use Rattle.abi_pack.proofs.plan.Plan.edit.Goals as goal

pub edit_fault-requires-clause-small : goal.edit_fault-requires-clause-small
edit_fault-requires-clause-small c =
    let long = plan_shown_length _ c.args.self.now c.args.bytes.now c.self.view_is c.self.invariant.1 c.requires.shown in
    omega (arith, long, c.self.invariant.0.small)

pub edit_fault-requires-clause-within : goal.edit_fault-requires-clause-within
edit_fault-requires-clause-within c =
    let long = plan_shown_length _ c.args.self.now c.args.bytes.now c.self.view_is c.self.invariant.1 c.requires.shown in omega (arith, long)

pub returns-in-Some-clause-err : goal.returns-in-Some-clause-err
returns-in-Some-clause-err c =
    plan_refused _ c.args.self.now c.args.path.now (plain c.args.value.now) c.args.bytes.now c.in-Some.error c.self.view_is c.are_bytes.ensures (sym c.in-Some.is ∙ c.edit_fault.ensures)

pub change-requires-clause-reaches : goal.change-requires-clause-reaches
change-requires-clause-reaches c = fault_reaches c.args.path.now (plain c.args.value.now) _ _ (sym c.edit_fault.ensures ∙ c.in-None.is)

pub change-requires-clause-room : goal.change-requires-clause-room
change-requires-clause-room c = plan_shown_length _ c.args.self.now c.args.bytes.now c.self.view_is c.self.invariant.1 c.requires.shown

pub returns-in-None-clause-ok : goal.returns-in-None-clause-ok
returns-in-None-clause-ok c =
    plan_edited _ c.args.self.now c.args.path.now (plain c.args.value.now) c.args.bytes.now c.change.new.bytes c.self.view_is c.are_bytes.ensures
    (sym c.in-None.is ∙ c.edit_fault.ensures) c.requires.shown c.change.ensures.bytes
