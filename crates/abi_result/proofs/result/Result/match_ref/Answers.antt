use Rattle.std.proofs.Common.{refl}
use Rattle.abi_result.proofs.result.Result.match_ref.Goals as goal

pub returns-in-Ok : goal.returns-in-Ok
returns-in-Ok g c = rw c.in-Ok.is (_, c.ok.ensures, refl)

pub returns-in-Err : goal.returns-in-Err
returns-in-Err g c = rw c.in-Err.is (_, c.err.ensures, refl)
