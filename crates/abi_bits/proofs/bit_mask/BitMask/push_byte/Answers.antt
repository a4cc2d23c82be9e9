use Rattle.std.proofs.Common.{arith}
use Rattle.abi_bits.proofs.Entries.{positive}
use Rattle.abi_bits.proofs.Spans.{single_span, pushed}
use Rattle.abi_bits.proofs.bit_mask.BitMask.push_byte.Goals as goal

pub or_row-requires-clause-span : goal.or_row-requires-clause-span
or_row-requires-clause-span c = single_span c.args.at c.args.mask c.requires.within (positive c.args.mask c.if-mask-eq0.false) (omega (arith, c.ranges.mask.fits))

pub returns-clause-ok : goal.returns-clause-ok
returns-clause-ok c =
    pushed c.args.at c.args.mask c.args.self.now _ (rw c.self.view_is at c.self.invariant.mask) c.in_ok-or_row.ensures.valid c.requires.above c.requires.within
    (omega (arith, c.ranges.mask.fits)) c.in_ok-or_row.ensures.bytes
