use Rattle.abi_layout.proofs.Sounding.{part_sound}
use Rattle.abi_layout.proofs.laws.faultless_is_well_formed.Goals as goal

pub returns : goal.returns
returns c = part_sound
