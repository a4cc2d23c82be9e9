use Rattle.abi_report.proofs.Each.{fed_each}
use Rattle.abi_report.proofs.hash.+feed.Goals as goal

pub feed_fields-returns : goal.feed_fields-returns
feed_fields-returns g t c = rw (fed_each c.args.fields.now c.loop-field.field-index c.loop-field-test.false) (c.loop-field.invariant)
