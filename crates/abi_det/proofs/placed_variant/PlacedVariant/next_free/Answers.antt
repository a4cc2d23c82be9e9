use Rattle.std.proofs.Common.{◌-◌, arith}
use Rattle.abi_det.proofs.Next.{left_in, next_own}
use Rattle.abi_det.proofs.placed_variant.PlacedVariant.next_free.Goals as goal

pub overflow_add-offset : goal.overflow_add-offset
overflow_add-offset c =
    let own = left_in c.args.self.now.variant.now c.args.own.now (c.args.from - c.args.self.now.shift) c.in-Some.offset c.in-Some.byte c.size.ensures.lawful c.requires c.in-Some.ensures.next in
    omega (arith, own, c.size.ensures.bound, c.size.ensures.same, c.if-from-self.false, c.if-from-self-2.false, c.args.self.now.within)

pub returns-in-Some-clause-next : goal.returns-in-Some-clause-next
returns-in-Some-clause-next c =
    rw c.within.ensures
    (next_own c.args.self.now.variant.now c.args.self.now.shift c.args.self.now.size c.args.from c.args.own.now c.in-Some.offset c.in-Some.byte c.size.ensures.lawful
    (omega (arith, c.if-from-self-2.false)) c.requires c.in-Some.ensures.next)
