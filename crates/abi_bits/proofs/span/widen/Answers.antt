use Rattle.std.proofs.Common.{arith, refl}
use Rattle.abi_bits.proofs.Joining.{widened}
use Rattle.abi_bits.proofs.span.widen.Goals as goal

pub returns-clause-ok : goal.returns-clause-ok
returns-clause-ok c = λ k.
    let was = c.args.bytes.now.ok.0 in
    let long = c.in_ok-resize.ensures.len in
    let kept = c.in_ok-resize.ensures.by_index in
    let turned = c.rotate_right.ensures.by_index in
    widened c.args.front c.args.len k c.args.bytes.now.items c.resize.new.self.items c.rotate_right.new.self.items c.requires
    (omega (arith, c.rotate_right.new.self.ok.0, c.rotate_right.ensures.len, long))
    (λ k lt. kept.0 k 0 (omega (arith, lt, c.requires)) (omega (arith, lt, was)))
    (λ k le lt. kept.1 k 0 refl (omega (arith, le, was)) lt)
    (λ k lt. rw long at (turned.0 k 0 lt))
    (λ k le lt. turned.1 k 0 le (omega (arith, lt, long)))
