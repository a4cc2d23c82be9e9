use Rattle.std.proofs.Common.{◌∙◌, sym, slice_index, arith}
use Rattle.abi_pack.specs.ByteMap.{AreBytes}
use Rattle.abi_pack.specs.View.{plain}
use Rattle.abi_pack.proofs.Planning.{plan_other_length, plan_read, plan_long, plan_none}
use Rattle.abi_pack.proofs.plan.Plan.read.Goals as goal

pub returns-then-bytes-size : goal.returns-then-bytes-size
returns-then-bytes-size c = plan_other_length _ c.args.self.now c.args.bytes.now c.self.view_is (λ long. c.if-bytes-size.true (long ∙ sym c.size.ensures))

pub returns-then-not-is_shown : goal.returns-then-not-is_shown
returns-then-not-is_shown c =
    let bytes : AreBytes (slice_index c.args.bytes.now) = λ i. omega (arith, c.type_inv.bytes i) in
    plan_none _ c.args.self.now c.args.bytes.now c.self.view_is bytes (c.if-bytes-size.false ∙ c.size.ensures) c.if-not-is_shown.ensures

pub returns-in-Ok : goal.returns-in-Ok
returns-in-Ok c =
    let bytes : AreBytes (slice_index c.args.bytes.now) = λ i. omega (arith, c.type_inv.bytes i) in
    plan_read _ c.args.self.now (plain c.in-Ok.value) c.args.bytes.now c.self.view_is bytes (c.if-bytes-size.false ∙ c.size.ensures) c.if-not-is_shown.ensures c.in-Ok.ensures

pub returns-in-Err : goal.returns-in-Err
returns-in-Err c = plan_long _ c.args.self.now c.args.bytes.now c.self.view_is (c.if-bytes-size.false ∙ c.size.ensures)

pub returns-then-shows_many : goal.returns-then-shows_many
returns-then-shows_many c = plan_long _ c.args.self.now c.args.bytes.now c.self.view_is (c.if-bytes-size.false ∙ c.size.ensures)
