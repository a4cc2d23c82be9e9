use Rattle.abi_det.proofs.Heads.{frame_sound}
use Rattle.abi_det.proofs.layout.Layout.patterns.Goals as goal

pub returns-clause-well_formed : goal.returns-clause-well_formed
returns-clause-well_formed c =
    let patterns = c.in_ok-patterns.ensures in
    frame_sound c.args.self.now c.forbidden.result.now c.in_ok-patterns.patterns c.unused.ensures.lawful c.unused.ensures.mask c.forbidden.ensures.same patterns.same patterns.patterns patterns.bytes
