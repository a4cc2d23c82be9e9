use Rattle.std.proofs.Common.{◌≡◌, drop}
use Rattle.serde_json.specs.View.{items_view}
use Rattle.abi_document.specs.Edits.{steps_of}
use Rattle.abi_document.proofs.Arrays.{in_front}
use Rattle.abi_document.proofs.edits.steps_of.Given as goal

-- those so far in front of those of the items that are left
abbrev pub invariant-loop-item : goal.invariant-loop-item
invariant-loop-item l = in_front l.steps (steps_of (items_view (drop l.item-index l.items))) ≡ steps_of (items_view l.items)
