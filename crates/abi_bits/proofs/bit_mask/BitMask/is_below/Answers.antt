use Rattle.std.proofs.Common.{◌<◌, length, sym, arith}
use Rattle.std.proofs.lemmas.Bool.{eqb-false}
use Rattle.abi_bits.proofs.Spans.{no_entry, below_end}
use Rattle.abi_bits.proofs.bit_mask.BitMask.is_below.Goals as goal

pub returns-then-is_empty-clause-same : goal.returns-then-is_empty-clause-same
returns-then-is_empty-clause-same c = rw (no_entry _ _ _ _ c.self.view_is c.as_slice-bytes.ensures.value c.if-is_empty.ensures) c.if-is_empty.true

pub returns-else-is_empty-clause-same : goal.returns-else-is_empty-clause-same
returns-else-is_empty-clause-same c =
    let same = c.as_slice-bytes.ensures.value in
    let some : 0 < length c.self.inside.bytes.items = omega (arith, rw same at (eqb-false _ 0 (sym c.if-is_empty.ensures))) in
    rw (same, ← c.self.view_is) (sym (below_end c.args.size c.self.inside.start c.self.inside.bytes.items c.self.invariant some))
