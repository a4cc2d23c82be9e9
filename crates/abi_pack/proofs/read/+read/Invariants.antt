use Rattle.std.proofs.Common.{◌≡◌, ◌+◌, ◌-◌, ◌≤◌, length, slice_index}
use Rattle.abi_pack.specs.ByteMap.{seen_from}
use Rattle.abi_layout.specs.Shape.{size_in, repeated}
use Rattle.abi_pack.specs.ValueShown.{values_shown}
use Rattle.abi_pack.specs.View.{shape, shapes, joined}
use Rattle.abi_pack.proofs.Nodes.{nodes, nodes_in}
use Rattle.abi_pack.proofs.read.+read.Given as goal

abbrev pub decreases-read : goal.decreases-read
decreases-read l = nodes (shape l.part.now)

abbrev pub decreases-read_all : goal.decreases-read_all
decreases-read_all l = nodes_in (shapes l.fields.now)

abbrev pub decreases-read_each : goal.decreases-read_each
decreases-read_each l = nodes_in (repeated l.len (shape l.item.now))

abbrev pub invariant-read_each-loop-i : goal.invariant-read_each-loop-i
invariant-read_each-loop-i l =
    (l.start + size_in (repeated (l.len - l.i) (shape l.item)) ≤ length l.bytes)
    × (joined l.values (values_shown (repeated (l.len - l.i) (shape l.item)) (seen_from l.start (slice_index l.bytes))) ≡ joined l.fn.values (values_shown (repeated l.len (shape l.item)) (seen_from l.at (slice_index l.bytes))))
