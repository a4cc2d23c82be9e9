use Rattle.std.proofs.Common.{arith}
use Rattle.abi_det.specs.Roles.{spare_byte}
use Rattle.abi_det.proofs.Exporting.{next_exported, all_exported}
use Rattle.abi_det.proofs.roles.Roles.exported.Goals as goal

pub loop-at-preserved : goal.loop-at-preserved
loop-at-preserved c = record {
  told = next_exported c.args.test.now (spare_byte c.args.self.now.large c.args.self.now.small c.args.shift c.args.self.now.size) c.args.self.now.size
      c.loop-at.from c.in-Some.at c.in-Some.byte c.without.result c.loop-at.mask c.push_byte.new.self c.requires c.in-Some.ensures.next c.without.ensures
      c.loop-at.invariant.told c.in_ok-push_byte.ensures.ok;
  within = omega (arith, c.in-Some.ensures.next.1);
  left = (λ i g. c.in-Some.ensures.left.0 i (omega (arith, g)), λ i g. c.in-Some.ensures.left.1 i (omega (arith, g)));
}

pub returns : goal.returns
returns c =
    all_exported c.args.test.now (spare_byte c.args.self.now.large c.args.self.now.small c.args.shift c.args.self.now.size) c.args.self.now.size
    c.loop-at.from c.loop-at.mask c.requires c.in_default.ensures.next c.loop-at.invariant.within c.loop-at.invariant.told
