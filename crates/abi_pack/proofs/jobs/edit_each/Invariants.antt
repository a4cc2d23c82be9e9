use Rattle.std.proofs.Common.{drop}
use Rattle.abi_pack.specs.EditLists.{plain_edits}
use Rattle.abi_pack.specs.Packing.{OfPlan}
use Rattle.abi_pack.proofs.EditSteps.{IsEditing}
use Rattle.abi_pack.proofs.jobs.edit_each.Given as goal

abbrev pub invariant-loop-number : goal.invariant-loop-number
invariant-loop-number l =
    OfPlan l.plan (λ rules target t. IsEditing rules target t (plain_edits l.edits) l.fn.bytes (plain_edits (drop l.number l.edits)) l.number l.bytes)
