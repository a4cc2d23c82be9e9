use Rattle.abi_pack.proofs.Promised.{image_law}
use Rattle.abi_pack.proofs.laws.image_is_canonical.Goals as goal

pub returns : goal.returns
returns c = image_law
