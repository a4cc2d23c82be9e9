use Rattle.abi_pack.proofs.Steps.{raw_below}
use Rattle.abi_pack.proofs.fits.+fits.Goals as goal

pub fits-has-requires-in-Raw : goal.fits-has-requires-in-Raw
fits-has-requires-in-Raw t c = record { below = raw_below c.args.part.now c.in-Raw.size c.in-Raw.free c.in-Raw.forbidden c.in-Raw.is c.requires.sound }
