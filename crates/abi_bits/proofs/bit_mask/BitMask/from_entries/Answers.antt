use Rattle.std.proofs.Common.{sym}
use Rattle.abi_bits.proofs.Entries.{next_past}
use Rattle.abi_bits.proofs.bit_mask.BitMask.from_entries.Goals as goal

pub push_byte-requires-clause-above : goal.push_byte-requires-clause-above
push_byte-requires-clause-above c = (next_past c.args.entries.now c.loop-offset.mask c.loop-offset.offset-index (0, 0) (sym c.if-not-is_mask.ensures) c.loop-offset-test.true c.loop-offset.invariant).1

pub push_byte-requires-clause-within : goal.push_byte-requires-clause-within
push_byte-requires-clause-within c = (next_past c.args.entries.now c.loop-offset.mask c.loop-offset.offset-index (0, 0) (sym c.if-not-is_mask.ensures) c.loop-offset-test.true c.loop-offset.invariant).0
