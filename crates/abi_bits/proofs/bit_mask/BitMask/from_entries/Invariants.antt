use Rattle.std.proofs.Common.{◌≡◌, ◌++◌, drop}
use Rattle.abi_bits.proofs.bit_mask.BitMask.from_entries.Given as goal

abbrev pub invariant-loop-offset : goal.invariant-loop-offset
invariant-loop-offset l = l.mask ++ drop l.offset-index l.entries ≡ l.entries
