use Rattle.abi_pack.proofs.Lawful.{read_law}
use Rattle.abi_pack.proofs.laws.what_is_read_is_shown.Goals as goal

pub returns : goal.returns
returns c = read_law
