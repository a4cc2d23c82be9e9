use Rattle.std.proofs.Common.{◌∙◌, refl}
use Rattle.abi_det.proofs.Sizes.{rounded_small}
use Rattle.abi_det.specs.FrameOf.{frame}
use Rattle.abi_layout.proofs.Opening.{open_parts}
use Rattle.abi_layout.proofs.Making.{rounded_made}
use Rattle.abi_layout.proofs.builders.rounded_to.Goals as goal

pub with_whole-requires-clause-within : goal.with_whole-requires-clause-within
with_whole-requires-clause-within c =
    let p = open_parts (frame c.args.t) c.requires.open in
    rw c.next_multiple_of-own.ensures.value (rounded_small c.args.t.size c.args.t.align p.1 p.0)

pub from_lawful-requires : goal.from_lawful-requires
from_lawful-requires c =
    (rounded_made (frame c.args.t) _ c.args.whole c.next_multiple_of-own.result c.requires.open c.requires.aligned c.requires.larger c.next_multiple_of-own.ensures.value
    c.next_multiple_of-size.ensures.value refl c.in_ok-unused.ensures.valid c.in_ok-unused.ensures.below c.in_ok-unused.ensures.bytes refl c.counted.ensures refl).0

pub returns : goal.returns
returns c =
    c.from_lawful.ensures
    ∙ (rounded_made (frame c.args.t) _ c.args.whole c.next_multiple_of-own.result c.requires.open c.requires.aligned c.requires.larger c.next_multiple_of-own.ensures.value
    c.next_multiple_of-size.ensures.value refl c.in_ok-unused.ensures.valid c.in_ok-unused.ensures.below c.in_ok-unused.ensures.bytes refl c.counted.ensures refl).1
