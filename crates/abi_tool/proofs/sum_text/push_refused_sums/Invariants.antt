use Rattle.std.proofs.Common.{◌≡◌, ◌++◌, string_bytes, take}
use Rattle.abi_tool.specs.Lines.{refused_sums_lines}
use Rattle.abi_tool.proofs.sum_text.push_refused_sums.Given as goal

abbrev pub invariant-loop-sum : goal.invariant-loop-sum
invariant-loop-sum l = string_bytes l.out ≡ string_bytes l.fn.out ++ refused_sums_lines (take l.sum-index l.sums)
