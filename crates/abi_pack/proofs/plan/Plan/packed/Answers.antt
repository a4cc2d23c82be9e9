use Rattle.abi_pack.specs.View.{plain}
use Rattle.abi_pack.proofs.Planning.{plan_value}
use Rattle.abi_pack.proofs.plan.Plan.packed.Goals as goal

pub packed-requires-clause-fits : goal.packed-requires-clause-fits
packed-requires-clause-fits c = plan_value _ c.args.self.now (plain c.args.value.now) c.self.view_is c.self.invariant.1 c.requires.fits
