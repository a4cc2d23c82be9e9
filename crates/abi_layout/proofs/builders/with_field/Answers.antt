use Rattle.abi_layout.proofs.Making.{field_follows}
use Rattle.abi_layout.proofs.builders.with_field.Goals as goal

pub returns : goal.returns
returns c =
    field_follows c.args.unused c.in_ok-padded.padded _ c.args.field.now c.args.end c.args.start c.unused.ensures.lawful c.in_ok-mask.ensures.valid c.in_ok-padded.ensures.below
    c.requires.room c.in_ok-padded.ensures.bytes (rw c.unused.ensures.same at c.in_ok-mask.ensures.same) (rw c.unused.ensures.same at c.in_ok-mask.ensures.bytes)
