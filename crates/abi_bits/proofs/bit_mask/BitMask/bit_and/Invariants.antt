use Rattle.std.proofs.Common.{◌≡◌, bit_and}
use Rattle.abi_bits.specs.Mask.{entries_below, mask_at, IsMask}
use Rattle.abi_bits.proofs.bit_mask.BitMask.bit_and.Given as goal

abbrev pub invariant-loop-at : goal.invariant-loop-at
invariant-loop-at l = (l.mask ≡ entries_below (λ at. bit_and (mask_at l.self at) (mask_at l.other at)) l.at) × IsMask l.mask
