use Rattle.std.proofs.Common.{◌≡◌, ◌*◌, ◌≤◌, take}
use Rattle.std.specs.List.{sum}
use Rattle.abi_tool.proofs.made_text.total.Given as goal

abbrev pub invariant-bytes : goal.invariant-bytes
invariant-bytes l = record {
  summed : l.total ≡ sum (take l.byte-index l.bytes);
  small : l.total ≤ 256 * l.byte-index;
}
