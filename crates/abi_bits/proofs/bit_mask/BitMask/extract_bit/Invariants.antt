use Rattle.std.proofs.Common.{◌≡◌, bit_xor}
use Rattle.abi_bits.specs.Mask.{entries_below, mask_at, bit_byte, IsMask}
use Rattle.abi_bits.proofs.bit_mask.BitMask.extract_bit.Given as goal

abbrev pub invariant-loop-at : goal.invariant-loop-at
invariant-loop-at l = (l.rest ≡ entries_below (λ at. bit_xor (mask_at l.self at) (bit_byte l.least at)) l.at) × IsMask l.rest
