use Rattle.std.proofs.Common.{◌∙◌, sym, slice_index, refl, arith}
use Rattle.abi_pack.specs.ByteMap.{AreBytes}
use Rattle.abi_pack.proofs.Planning.{plan_other_length, plan_many}
use Rattle.abi_pack.proofs.plan.Plan.shows_many.Goals as goal

pub returns-then-bytes-size : goal.returns-then-bytes-size
returns-then-bytes-size c = λ rules target t of long.
    absurd (plan_other_length _ c.args.self.now c.args.bytes.now c.self.view_is (λ same. c.if-bytes-size.true (same ∙ sym c.size.ensures)) rules target t of long)

pub returns : goal.returns
returns c =
    let bytes : AreBytes (slice_index c.args.bytes.now) = λ i. omega (arith, c.type_inv.bytes i) in
    λ rules target t of long. plan_many _ c.args.self.now c.args.bytes.now c.values.result _ c.self.view_is bytes c.values.ensures refl rules target t of
