use Rattle.abi_det.proofs.Chosen.{sound_sum}
use Rattle.abi_det.proofs.laws.sum_is_well_formed.Goals as goal

pub returns : goal.returns
returns c = sound_sum
