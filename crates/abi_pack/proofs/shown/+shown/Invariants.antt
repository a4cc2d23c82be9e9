use Rattle.std.proofs.Common.{◌≡◌, ◌+◌, ◌-◌, ◌*◌, ◌≤◌, length, slice_index}
use Rattle.abi_pack.specs.ByteMap.{seen_from}
use Rattle.abi_layout.specs.Shape.{size, repeated}
use Rattle.abi_pack.specs.ValueShown.{is_shown, at_each}
use Rattle.abi_pack.specs.View.{shape, shapes}
use Rattle.abi_pack.proofs.Nodes.{nodes, nodes_in}
use Rattle.abi_pack.proofs.shown.+shown.Given as goal

abbrev pub decreases-is_shown : goal.decreases-is_shown
decreases-is_shown l = 2 * nodes (shape l.part.now)

abbrev pub decreases-are_shown : goal.decreases-are_shown
decreases-are_shown l = 2 * nodes_in (shapes l.fields.now)

abbrev pub decreases-each_shown : goal.decreases-each_shown
decreases-each_shown l = 2 * nodes_in (repeated l.len (shape l.item.now)) + 1

-- a part asked of several places is asked of one
abbrev pub decreases-spaced_shown : goal.decreases-spaced_shown
decreases-spaced_shown l = 2 * nodes (shape l.part.now) + 2

abbrev pub decreases-spaced_fields_shown : goal.decreases-spaced_fields_shown
decreases-spaced_fields_shown l = 2 * nodes_in (shapes l.fields.now) + 2

abbrev pub decreases-shown_in_turn : goal.decreases-shown_in_turn
decreases-shown_in_turn l = 2 * nodes (shape l.part.now) + 1

abbrev pub invariant-shown_in_turn-loop-i : goal.invariant-shown_in_turn-loop-i
invariant-shown_in_turn-loop-i l =
    (l.start + (l.count - l.i) * l.stride + size (shape l.part) ≤ length l.bytes + l.stride)
    × (at_each (l.count - l.i) l.stride (is_shown (shape l.part)) (seen_from l.start (slice_index l.bytes)) ≡ at_each l.count l.stride (is_shown (shape l.part)) (seen_from l.at (slice_index l.bytes)))
