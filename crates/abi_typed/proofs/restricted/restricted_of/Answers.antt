use Rattle.std.proofs.Common.{◌≡◌, true, refl}
use Rattle.abi_layout.specs.Prims.{in_width}
use Rattle.abi_typed.proofs.Restricting.{answered, unanswered}
use Rattle.abi_typed.proofs.restricted.restricted_of.Goals as goal

pub returns-in-Some-clause-some : goal.returns-in-Some-clause-some
returns-in-Some-clause-some g c =
    let placed : in_width g.N.Whole.width g.N.Whole.signed (g.N.Whole.magnitude c.in-Some.number) (g.N.Whole.negative c.in-Some.number) ≡ true =
    rw c.in-Some.ensures.magnitude (rw c.in-Some.ensures.negative (c.in-Some.ensures.some.0 refl)) in
    answered _ _ _ _ g.met.R.Excluding.in_table _ _ _ _ c.in-Some.ensures.magnitude c.in-Some.ensures.negative _
    (g.met.R.Excluding.excluded c.in-Some.number placed) placed c.new.result c.new.ensures.none

pub returns-in-None-clause-some : goal.returns-in-None-clause-some
returns-in-None-clause-some g c = unanswered _ _ _ _ g.met.R.Excluding.in_table _ _ c.in-None.ensures.some.1
