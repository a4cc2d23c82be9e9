use Rattle.abi_report.proofs.Each.{hashed_each}
use Rattle.abi_report.proofs.identifier.+taking.Goals as goal

pub take_in_fields-returns : goal.take_in_fields-returns
take_in_fields-returns t c = rw (hashed_each c.args.fields.now c.loop-field.field-index c.loop-field-test.false) (c.loop-field.invariant)
