use Rattle.std.proofs.Common.{◌≡◌, ◌+◌, ◌*◌, drop, map}
use Rattle.serde_json.specs.View.{items_view}
use Rattle.abi_document.specs.Descriptions.{named, fields_of, desc_at}
use Rattle.abi_document.proofs.Arrays.{in_front}
use Rattle.abi_document.proofs.descriptions.+reading.Given as goal

abbrev pub decreases-desc_at : goal.decreases-desc_at
decreases-desc_at l = 8 * l.levels

abbrev pub decreases-desc_step : goal.decreases-desc_step
decreases-desc_step l = 8 * l.levels + 7

abbrev pub decreases-form_of : goal.decreases-form_of
decreases-form_of l = 8 * l.levels + 6

abbrev pub decreases-one_sided_of : goal.decreases-one_sided_of
decreases-one_sided_of l = 8 * l.levels + 5

abbrev pub decreases-pointer_of : goal.decreases-pointer_of
decreases-pointer_of l = 8 * l.levels + 4

abbrev pub decreases-struct_of : goal.decreases-struct_of
decreases-struct_of l = 8 * l.levels + 3

abbrev pub decreases-array_of : goal.decreases-array_of
decreases-array_of l = 8 * l.levels + 3

abbrev pub decreases-fields_of : goal.decreases-fields_of
decreases-fields_of l = 8 * l.levels + 2

abbrev pub decreases-pair_at : goal.decreases-pair_at
decreases-pair_at l = 8 * l.levels + 2

abbrev pub decreases-wrap_of : goal.decreases-wrap_of
decreases-wrap_of l = 8 * l.levels + 2

abbrev pub decreases-pointer_to : goal.decreases-pointer_to
decreases-pointer_to l = 8 * l.levels + 2

abbrev pub decreases-field_of : goal.decreases-field_of
decreases-field_of l = 8 * l.levels + 1

abbrev pub decreases-boxed_at : goal.decreases-boxed_at
decreases-boxed_at l = 8 * l.levels + 1

-- the fields so far in front of those of the items that are left
abbrev pub invariant-fields_of-loop-item : goal.invariant-fields_of-loop-item
invariant-fields_of-loop-item l =
    in_front (map named l.fields) (fields_of (desc_at l.levels) (items_view (drop l.item-index l.items))) ≡ fields_of (desc_at l.levels) (items_view l.items)
