use Rattle.abi_det.proofs.PlaceLaws.{positions}
use Rattle.abi_det.proofs.laws.every_place_that_fits_exists.Goals as goal

pub returns : goal.returns
returns c = positions
