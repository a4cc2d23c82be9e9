use Rattle.abi_pack.specs.View.{plain}
use Rattle.abi_pack.proofs.Planning.{plan_fits}
use Rattle.abi_pack.proofs.plan.Plan.fits.Goals as goal

pub returns : goal.returns
returns c = plan_fits _ c.args.self.now (plain c.args.value.now) c.fits.result c.self.view_is c.fits.ensures
