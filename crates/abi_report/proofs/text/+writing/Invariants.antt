use Rattle.std.proofs.Common.{take, flat_map}
use Rattle.std.specs.Fmt.{HasWritten, IsPlainFormatter}
use Rattle.abi_report.specs.Reports.{named}
use Rattle.abi_report.specs.Texts.{field_text}
use Rattle.abi_report.proofs.text.+writing.Given as goal

-- the fields so far are written
abbrev pub invariant-write_fields-loop-field : goal.invariant-write_fields-loop-field
invariant-write_fields-loop-field g l =
    IsPlainFormatter l.initial.f → HasWritten g.W.Write.write_str_gives l.initial.f (flat_map (λ f. field_text (named f)) (take l.field-index l.fields)) l.f
