use Rattle.std.proofs.Common.{◌≡◌, ◌++◌, [], string_bytes, drop}
use denote.Text.{Utf8}
use denote.Shadow.{shadow}
use Rattle.abi_pack.specs.View.{plains}
use Rattle.abi_tool.specs.Lines.{values_text}
use Rattle.abi_tool.proofs.value_text.+writing.Given as goal

abbrev pub invariant-push_values-loop-value : goal.invariant-push_values-loop-value
invariant-push_values-loop-value l =
    shadow (Utf8 l.before)
    × (string_bytes l.out ++ values_text l.before (plains (drop l.value-index l.values)) ≡ string_bytes l.fn.out ++ values_text [] (plains l.values))
