use Rattle.std.proofs.Common.{◌≡◌, ◌++◌, string_bytes, take}
use Rattle.abi_tool.specs.Lines.{offsets_text}
use Rattle.abi_tool.proofs.sum_text.push_offsets.Given as goal

abbrev pub invariant-loop-offset : goal.invariant-loop-offset
invariant-loop-offset l = string_bytes l.out ≡ string_bytes l.fn.out ++ offsets_text (take l.offset-index l.offsets)
