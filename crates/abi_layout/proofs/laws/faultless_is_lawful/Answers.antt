use Rattle.abi_layout.proofs.Sounding.{part_sound}
use Rattle.abi_layout.proofs.laws.faultless_is_lawful.Goals as goal

pub returns : goal.returns
returns c rules target first t row h = (part_sound rules target first t row h).lawful
