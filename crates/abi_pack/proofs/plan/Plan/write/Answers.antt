use Rattle.abi_pack.specs.View.{plain}
use Rattle.abi_pack.proofs.Planning.{plan_value, plan_room, plan_written}
use Rattle.abi_pack.proofs.plan.Plan.write.Goals as goal

pub write-requires-clause-fits : goal.write-requires-clause-fits
write-requires-clause-fits c = plan_value _ c.args.self.now (plain c.args.value.now) c.self.view_is c.self.invariant.1 c.requires.fits

pub write-requires-clause-room : goal.write-requires-clause-room
write-requires-clause-room c = plan_room _ c.args.self.now _ c.self.view_is c.self.invariant.1 c.requires.room

pub returns : goal.returns
returns c = plan_written _ c.args.self.now (plain c.args.value.now) c.write.new.out c.self.view_is c.requires.fits c.write.ensures
