use Rattle.std.proofs.Common.{◌∙◌, sym, slice_index, arith}
use Rattle.abi_pack.specs.ByteMap.{AreBytes}
use Rattle.abi_pack.proofs.Planning.{plan_other_length, plan_shown, plan_where}
use Rattle.abi_pack.proofs.plan.Plan.shown.Goals as goal

pub returns-then-bytes-size : goal.returns-then-bytes-size
returns-then-bytes-size c = λ rules target t of. (
  λ none. absurd (cc),
  λ shown. absurd (plan_other_length _ c.args.self.now c.args.bytes.now c.self.view_is (λ long. c.if-bytes-size.true (long ∙ sym c.size.ensures)) rules target t of shown.0),
)

pub returns : goal.returns
returns c =
    let bytes : AreBytes (slice_index c.args.bytes.now) = λ i. omega (arith, c.type_inv.bytes i) in
    λ rules target t of. (
      λ shown. plan_shown _ c.args.self.now c.args.bytes.now c.self.view_is bytes (c.if-bytes-size.false ∙ c.size.ensures) (sym shown ∙ c.is_shown.ensures) rules target t of,
      λ shown. plan_where _ c.args.self.now c.args.bytes.now c.is_shown.result c.self.view_is bytes c.is_shown.ensures rules target t of shown,
    )
