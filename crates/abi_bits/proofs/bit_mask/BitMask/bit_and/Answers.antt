use Rattle.std.proofs.Common.{refl, arith}
use Rattle.abi_bits.proofs.Entries.{told_start, told_lies, told_more, told_bytes}
use Rattle.abi_bits.proofs.Spans.{span_before, span_past}
use Rattle.abi_bits.proofs.Sets.{and_none, both_has}
use Rattle.abi_bits.proofs.bit_mask.BitMask.bit_and.Goals as goal

pub loop-at-init : goal.loop-at-init
loop-at-init c = (
  told_start _ c.self.inside.start _ c.new-mask.ensures
      (λ k lt. and_none _ _ (rw c.self.view_is at (span_before c.self.inside.start c.self.inside.bytes.items k lt))),
  rw c.new-mask.ensures refl,
)

pub push_byte-requires-clause-above : goal.push_byte-requires-clause-above
push_byte-requires-clause-above c = told_lies _ c.loop-at.at c.loop-at.mask c.loop-at.invariant.0

pub loop-at-preserved : goal.loop-at-preserved
loop-at-preserved c = (
  told_more _ c.loop-at.at _ c.loop-at.mask _ c.loop-at.invariant.0 (rw (c.byte_at.ensures.same, c.byte_at-in-loop-at.ensures.same) refl) c.in_ok-push_byte.ensures.ok,
  c.in_ok-push_byte.ensures.valid,
)

pub returns-clause-bytes : goal.returns-clause-bytes
returns-clause-bytes c =
    told_bytes _ c.loop-at.at c.loop-at.mask c.loop-at.invariant.0
    (λ k le. and_none _ _ (rw c.self.view_is at (span_past c.self.inside.start c.self.inside.bytes.items k
    (omega (arith, le, c.loop-at-test.false, c.len.ensures, c.self.inside.bytes.ok.0)))))

pub returns-clause-bits : goal.returns-clause-bits
returns-clause-bits c = both_has c.args.self.now c.args.other.now c.loop-at.mask (returns-clause-bytes c)
