use Rattle.std.proofs.Common.{refl, arith}
use Rattle.abi_bits.proofs.Entries.{told_start, told_lies, told_more, told_bytes}
use Rattle.abi_bits.proofs.Spans.{span_before, span_past}
use Rattle.abi_bits.proofs.Least.{xor_none, no_least, rest_has}
use Rattle.abi_bits.proofs.bit_mask.BitMask.extract_bit.Goals as goal

pub loop-at-init : goal.loop-at-init
loop-at-init c = (
  told_start _ c.self.inside.start _ c.new-rest.ensures (λ k lt.
      let none = rw c.self.view_is at (span_before c.self.inside.start c.self.inside.bytes.items k lt) in
      xor_none _ _ none (rw c.least_bit-least.ensures.same (no_least c.args.self.now k c.least_bit-least.ensures.valid none))),
  rw c.new-rest.ensures refl,
)

pub push_byte-requires-clause-above : goal.push_byte-requires-clause-above
push_byte-requires-clause-above c = told_lies _ c.loop-at.at c.loop-at.rest c.loop-at.invariant.0

pub loop-at-preserved : goal.loop-at-preserved
loop-at-preserved c = (
  told_more _ c.loop-at.at _ c.loop-at.rest _ c.loop-at.invariant.0 (rw (c.byte_at.ensures.same, c.bit_byte.ensures) refl) c.in_ok-push_byte.ensures.ok,
  c.in_ok-push_byte.ensures.valid,
)

pub returns-clause-bytes : goal.returns-clause-bytes
returns-clause-bytes c =
    rw c.least_bit-least.ensures.same at (told_bytes _ c.loop-at.at c.loop-at.rest c.loop-at.invariant.0 (λ k le.
    let none = rw c.self.view_is at (span_past c.self.inside.start c.self.inside.bytes.items k
    (omega (arith, le, c.loop-at-test.false, c.len.ensures, c.self.inside.bytes.ok.0))) in
    xor_none _ _ none (rw c.least_bit-least.ensures.same (no_least c.args.self.now k c.least_bit-least.ensures.valid none))))

pub returns-clause-bits : goal.returns-clause-bits
returns-clause-bits c = rest_has c.args.self.now c.loop-at.rest c.least_bit-least.ensures.valid (returns-clause-bytes c)
