use Rattle.std.proofs.Common.{◌≡◌, ◌++◌, string_bytes, take}
use Rattle.abi_tool.specs.Lines.{refusal_lines}
use Rattle.abi_tool.proofs.sum_text.push_refusals.Given as goal

abbrev pub invariant-loop-refusal : goal.invariant-loop-refusal
invariant-loop-refusal l = string_bytes l.out ≡ string_bytes l.fn.out ++ refusal_lines (take l.refusal-index l.refusals)
