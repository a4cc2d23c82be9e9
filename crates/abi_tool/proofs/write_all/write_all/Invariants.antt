use Rattle.std.proofs.Common.{◌-◌, ◌≤◌, length, take}
use Rattle.std.specs.Io.KnownBytes.{Appends}
use Rattle.abi_tool.proofs.write_all.write_all.Given as goal

abbrev pub invariant-writing : goal.invariant-writing
invariant-writing g l = record {
  went : Appends (g.K.Sink.got l.fn.sink) (g.K.Sink.got l.sink) (take l.done l.text);
  later : g.K.Sink.faults l.fn.sink ≤ g.K.Sink.faults l.sink;
  within : l.done ≤ length l.text;
}

abbrev pub decreases-writing : goal.decreases-writing
decreases-writing g l = length l.text - l.done
