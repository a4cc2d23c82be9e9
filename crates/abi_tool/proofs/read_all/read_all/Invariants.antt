use Rattle.std.proofs.Common.{◌+◌, ◌-◌, ◌≤◌, length}
use Rattle.std.specs.Io.KnownBytes.{Consumes}
use Rattle.abi_tool.specs.Moves.{limit}
use Rattle.abi_tool.proofs.read_all.read_all.Given as goal

abbrev pub invariant-reading : goal.invariant-reading
invariant-reading g l = record {
  came : Consumes (g.S.Source.left l.fn.source) (g.S.Source.left l.source) l.bytes.items;
  later : g.S.Source.faults l.fn.source ≤ g.S.Source.faults l.source;
  short : length l.bytes.items ≤ limit + 1;
}

abbrev pub decreases-reading : goal.decreases-reading
decreases-reading g l = limit + 1 - length l.bytes.items
