use Rattle.abi_det.specs.FrameOf.{frame}
use Rattle.abi_det.proofs.Lawful.{sound_items}
use Rattle.abi_det.proofs.layout.Layout.forbidden.Goals as goal

pub returns-clause-sound : goal.returns-clause-sound
returns-clause-sound c = sound_items (frame c.self.inside.raw) c.self.invariant
