use Rattle.std.proofs.Common.{rules, ◌≡◌, ◌∙◌, ap, sym, subst, slice_index, List, ℕ, Result, Ok, Err, arith}
use Rattle.abi_det.specs.Offers.{One}
use Rattle.abi_layout.specs.Trees.{tree}
use Rattle.abi_pack.specs.ByteMap.{AreBytes}
use Rattle.abi_pack.specs.View.{plain}
use Rattle.abi_tool.specs.Lines.{value_line}
use Rattle.abi_tool.specs.Outcomes.{IsOutcome, of_reading, read_outcome}
use Rattle.abi_tool.specs.declared.job_error.JobError.{JobError}
use Rattle.abi_tool.proofs.Outcomes.{shown_value, unread}
use Rattle.abi_tool.proofs.outcome.read_outcome.Goals as goal

pub returns-in_err-value : goal.returns-in_err-value
returns-in_err-value c =
    let small : AreBytes (slice_index c.args.bytes.now) = λ i. omega (arith, c.type_inv.bytes i) in
    let of = c.in_ok-plan.ensures.ok in
    let error : c.from_residual-in_err-value.result ≡ Err (of_reading c.in_err-value.field-0.0) = search rules in
    let P : Result (List ℕ) JobError → Type 0 = λ r. IsOutcome (read_outcome c.args.target.now (tree c.args.desc.now) c.args.bytes.now) r in
    subst P (sym error)
    (unread (λ v. Ok (value_line v)) c.args.target.now (tree c.args.desc.now) c.args.bytes.now of.faultless c.in_err-value.field-0.0 small (c.in_err-value.ensures One c.args.target.now (tree c.args.desc.now) of))

pub returns : goal.returns
returns c =
    let small : AreBytes (slice_index c.args.bytes.now) = λ i. omega (arith, c.type_inv.bytes i) in
    let of = c.in_ok-plan.ensures.ok in
    shown_value (λ v. Ok (value_line v)) c.args.target.now (tree c.args.desc.now) c.args.bytes.now of.faultless (plain c.in_ok-value.value) small (c.in_ok-value.ensures One c.args.target.now (tree c.args.desc.now) of)
    ∙ ap Ok (sym c.in_ok-value_line.ensures)
