use Rattle.std.proofs.Common.{◌≡◌, drop, map}
use Rattle.serde_json.specs.View.{items_view}
use Rattle.abi_document.specs.Edits.{plain_edit, each_edit}
use Rattle.abi_document.proofs.Arrays.{in_front}
use Rattle.abi_document.proofs.edits.each_edit.Given as goal

-- those so far in front of those of the items that are left
abbrev pub invariant-loop-item : goal.invariant-loop-item
invariant-loop-item l = in_front (map plain_edit l.edits) (each_edit (items_view (drop l.item-index l.items))) ≡ each_edit (items_view l.items)
