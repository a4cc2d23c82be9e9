use Rattle.abi_pack.proofs.EditLaws.{canonical_edit_law}
use Rattle.abi_pack.proofs.laws.edited_bytes_stay_canonical.Goals as goal

pub returns : goal.returns
returns c = canonical_edit_law
