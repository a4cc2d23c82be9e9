use Rattle.abi_pack.proofs.Lawful.{held_law}
use Rattle.abi_pack.proofs.laws.held_bits_decide.Goals as goal

pub returns : goal.returns
returns c = held_law
