use Rattle.std.proofs.Common.{refl}
use Rattle.abi_result.proofs.option.Option.match_ref.Goals as goal

pub returns-in-Some : goal.returns-in-Some
returns-in-Some g c = rw c.in-Some.is (_, c.some.ensures, refl)
