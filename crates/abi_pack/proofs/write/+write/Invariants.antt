use Rattle.std.proofs.Common.{◌+◌, ◌*◌, length, drop}
use Rattle.abi_pack.specs.Packed.{packed_in}
use Rattle.abi_layout.specs.Shape.{repeated}
use Rattle.abi_pack.specs.View.{shape, shapes, plains}
use Rattle.abi_pack.proofs.Nodes.{nodes, nodes_in}
use Rattle.abi_pack.proofs.RowWriting.{IsWriting}
use Rattle.abi_pack.proofs.write.+write.Given as goal

abbrev pub decreases-write : goal.decreases-write
decreases-write l = 2 * nodes (shape l.part.now)

abbrev pub decreases-write_at : goal.decreases-write_at
decreases-write_at l = 2 * nodes (shape l.part.now) + 1

abbrev pub decreases-write_all : goal.decreases-write_all
decreases-write_all l = 2 * nodes_in (shapes l.fields.now)

abbrev pub decreases-write_each : goal.decreases-write_each
decreases-write_each l = 2 * nodes_in (repeated l.len (shape l.item.now))

abbrev pub invariant-write_each-loop-value : goal.invariant-write_each-loop-value
invariant-write_each-loop-value l =
    IsWriting (shape l.item) (drop l.value-index l.values) l.start (length l.fn.out) l.out (packed_in (length l.fn.out) (repeated l.len (shape l.item)) (plains l.values))
