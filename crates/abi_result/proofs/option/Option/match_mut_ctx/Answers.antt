use Rattle.std.proofs.Common.{refl}
use Rattle.abi_result.proofs.option.Option.match_mut_ctx.Goals as goal

pub returns-in-Some : goal.returns-in-Some
returns-in-Some g c = rw c.in-Some.is
    (record { shown = _; shows = c.in-Some.x-is; left = _; met = c.some.ensures; leaves = refl })
