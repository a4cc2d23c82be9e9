use Rattle.std.proofs.Common.{◌≡◌, ◌+◌, ◌*◌, ◌≤◌, ◌++◌, drop}
use Rattle.abi_layout.specs.Faults.{part_fault_in}
use Rattle.abi_layout.specs.Frames.{written_frames}
use Rattle.abi_layout.specs.Trees.{branches, parts_in}
use Rattle.abi_layout.specs.Plans.{shapes_of, AreNamed}
use Rattle.abi_layout.specs.Sums.{written_sums_in}
use Rattle.abi_layout.specs.PartView.{shapes}
use Rattle.abi_layout.proofs.Walking.{fronted}
use Rattle.abi_layout.proofs.walk.+walk.Given as goal

-- what is left of the fields has the shapes, the frames, the parts, the sums and the fault that all of them still lack; each part so far
-- took less than 2^21 bytes
abbrev pub invariant-lay_out_fields-loop-field : goal.invariant-lay_out_fields-loop-field
invariant-lay_out_fields-loop-field l = record {
  fields : fronted l.laid (shapes_of l.rules l.target l.end (branches (drop l.field-index l.fields))) ≡ shapes_of l.rules l.target 0 (branches l.fields);
  named : AreNamed (shapes l.laid);
  frames : l.layouts ++ written_frames l.rules l.target (branches (drop l.field-index l.fields)) ≡ written_frames l.rules l.target (branches l.fields);
  bound : l.end ≤ 2097152 * l.part;
  number : l.part + parts_in (branches (drop l.field-index l.fields)) ≡ l.first + parts_in (branches l.fields);
  sums : l.sums.items ++ written_sums_in l.rules l.target l.part (branches (drop l.field-index l.fields)) ≡ l.fn.sums.items ++ written_sums_in l.rules l.target l.first (branches l.fields);
  fault : part_fault_in l.rules l.target l.part (branches (drop l.field-index l.fields)) ≡ part_fault_in l.rules l.target l.first (branches l.fields);
}
