use Rattle.abi_report.proofs.Each.{text_each}
use Rattle.abi_report.proofs.text.+writing.Goals as goal

pub write_fields-returns : goal.write_fields-returns
write_fields-returns g t c = rw (text_each c.args.fields.now c.loop-field.field-index c.loop-field-test.false) (λ plain ok. c.loop-field.invariant plain)
