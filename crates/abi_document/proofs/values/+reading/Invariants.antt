use Rattle.std.proofs.Common.{◌≡◌, ◌+◌, ◌*◌, drop, map}
use Rattle.serde_json.specs.View.{items_view}
use Rattle.abi_pack.specs.View.{plain}
use Rattle.abi_document.specs.Forms.{all_of}
use Rattle.abi_document.specs.Values.{value_at}
use Rattle.abi_document.proofs.Arrays.{in_front}
use Rattle.abi_document.proofs.values.+reading.Given as goal

abbrev pub decreases-value_at : goal.decreases-value_at
decreases-value_at l = 4 * l.levels

abbrev pub decreases-value_step : goal.decreases-value_step
decreases-value_step l = 4 * l.levels + 3

abbrev pub decreases-form_of : goal.decreases-form_of
decreases-form_of l = 4 * l.levels + 2

abbrev pub decreases-boxed_at : goal.decreases-boxed_at
decreases-boxed_at l = 4 * l.levels + 1

abbrev pub decreases-values_of : goal.decreases-values_of
decreases-values_of l = 4 * l.levels + 1

-- the values so far in front of those of the items that are left
abbrev pub invariant-values_of-loop-item : goal.invariant-values_of-loop-item
invariant-values_of-loop-item l =
    in_front (map plain l.values) (all_of (value_at l.levels) (items_view (drop l.item-index l.items))) ≡ all_of (value_at l.levels) (items_view l.items)
