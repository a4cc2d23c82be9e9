use Rattle.std.proofs.Common.{◌∙◌, ap}
use Rattle.abi_det.specs.FrameOf.{frame}
use Rattle.abi_layout.specs.Builders.{pair}
use Rattle.abi_layout.proofs.Opening.{pair_opens}
use Rattle.abi_layout.proofs.builders.field_pair.Goals as goal

pub returns-clause-built : goal.returns-clause-built
returns-clause-built c =
    pair_opens (frame c.args.a.now) c.args.b.now (frame c.in_ok-pair.pair) (c.in_ok-pair.ensures.same ∙ ap (λ f. pair f c.args.b.now) c.in_ok-before.ensures) c.requires.open
    c.in_ok-pair.ensures.lawful c.requires.room
