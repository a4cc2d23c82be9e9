use Rattle.std.proofs.Common.{refl}
use Rattle.abi_result.proofs.result.Result.match_mut_ctx.Goals as goal

pub returns-in-Ok : goal.returns-in-Ok
returns-in-Ok g c = rw c.in-Ok.is
    (record { shown = _; shows = c.in-Ok.x-is; left = _; met = c.ok.ensures; leaves = refl })

pub returns-in-Err : goal.returns-in-Err
returns-in-Err g c = rw c.in-Err.is
    (record { shown = _; shows = c.in-Err.e-is; left = _; met = c.err.ensures; leaves = refl })
