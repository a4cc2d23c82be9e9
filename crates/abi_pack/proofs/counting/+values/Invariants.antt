use Rattle.std.proofs.Common.{◌≡◌, ◌+◌, ◌-◌, ◌≤◌, min, length, slice_index}
use Rattle.abi_layout.specs.Shape.{size_in, repeated}
use Rattle.abi_pack.specs.ByteMap.{seen_from}
use Rattle.abi_pack.specs.Counting.{max_values, values_in_all}
use Rattle.abi_pack.specs.ValueShown.{values_shown}
use Rattle.abi_pack.specs.View.{shape, shapes}
use Rattle.abi_pack.proofs.Nodes.{nodes, nodes_in}
use Rattle.abi_pack.proofs.counting.+values.Given as goal

abbrev pub decreases-values : goal.decreases-values
decreases-values l = nodes (shape l.part.now)

abbrev pub decreases-values_of_all : goal.decreases-values_of_all
decreases-values_of_all l = nodes_in (shapes l.fields.now)

abbrev pub decreases-values_of_each : goal.decreases-values_of_each
decreases-values_of_each l = nodes_in (repeated l.len (shape l.item.now))

abbrev pub invariant-values_of_each-loop-i : goal.invariant-values_of_each-loop-i
invariant-values_of_each-loop-i l = record {
  within : l.start + size_in (repeated (l.len - l.i) (shape l.item)) ≤ length l.bytes;
  low : l.count ≤ max_values + 1;
  whole : min (l.count + values_in_all (values_shown (repeated (l.len - l.i) (shape l.item)) (seen_from l.start (slice_index l.bytes)))) (max_values + 1)
      ≡ min (l.before + values_in_all (values_shown (repeated l.len (shape l.item)) (seen_from l.at (slice_index l.bytes)))) (max_values + 1);
}
