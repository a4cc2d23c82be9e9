use Rattle.std.proofs.Common.{◌≡◌, drop}
use Rattle.abi_bits.specs.Mask.{lies_free}
use Rattle.abi_bits.proofs.bit_mask.BitMask.includes.Given as goal

abbrev pub invariant-loop-offset : goal.invariant-loop-offset
invariant-loop-offset l = lies_free l.self l.subset ≡ lies_free l.self (drop l.offset-index l.subset)
