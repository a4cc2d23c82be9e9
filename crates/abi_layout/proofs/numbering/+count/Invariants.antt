use Rattle.std.proofs.Common.{◌≡◌, ◌+◌, ◌≤◌, min, drop}
use Rattle.abi_layout.specs.Trees.{branches, parts_in}
use Rattle.abi_layout.proofs.numbering.+count.Given as goal

-- what is left of the fields adds up with the sum so far
abbrev pub invariant-parts_in-loop-field : goal.invariant-parts_in-loop-field
invariant-parts_in-loop-field l =
    (l.sum ≤ 4097) × (min 4097 (l.sum + parts_in (branches (drop l.field-index l.fields))) ≡ min 4097 (parts_in (branches l.fields)))
