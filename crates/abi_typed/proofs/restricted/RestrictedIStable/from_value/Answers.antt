use Rattle.std.proofs.Common.{◌≡◌, ◌∙◌, ap}
use Rattle.abi_pack.specs.Plain.{integer}
use Rattle.abi_pack.specs.View.{plain}
use Rattle.abi_pack.proofs.Views.{plain_int}
use Rattle.abi_typed.proofs.restricted.RestrictedIStable.from_value.Goals as goal

pub returns-in-Int-clause-some : goal.returns-in-Int-clause-some
returns-in-Int-clause-some g c rules target =
    let e : plain c.args.value.now ≡ integer c.in-Int.magnitude c.in-Int.negative = ap plain c.in-Int.is ∙ plain_int _ _ in
    rw e (c.restricted_of.ensures.some rules target)
