use Rattle.std.proofs.Common.{◌≡◌, ◌++◌, ◌-◌, ◌≤◌, string_bytes}
use Rattle.abi_tool.specs.Lines.{entries_text}
use Rattle.abi_tool.proofs.Entries.{from_on}
use Rattle.abi_tool.proofs.text.push_entries.Given as goal

abbrev pub invariant-entries : goal.invariant-entries
invariant-entries l = record {
  told : string_bytes l.out ++ entries_text (from_on l.from l.free) ≡ string_bytes l.fn.out ++ entries_text l.free;
  within : l.from ≤ 1048576;
}

abbrev pub decreases-entries : goal.decreases-entries
decreases-entries l = 1048576 - l.from
