use Rattle.std.proofs.Common.{◌≡◌, ◌++◌, string_bytes, take}
use Rattle.abi_tool.specs.Lines.{more_pairs_text}
use Rattle.abi_tool.proofs.text.push_more_pairs.Given as goal

abbrev pub invariant-loop-offset : goal.invariant-loop-offset
invariant-loop-offset l = string_bytes l.out ≡ string_bytes l.fn.out ++ more_pairs_text (take l.offset-index l.pairs)
