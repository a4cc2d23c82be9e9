use Rattle.std.proofs.Common.{◌≡◌, ℕ, ◌<◌, length, slice_index}
use Rattle.abi_bits.specs.Mask.{mask_at}
use Rattle.abi_bits.proofs.bit_mask.BitMask.bytes.Given as goal

abbrev pub invariant-loop-at : goal.invariant-loop-at
invariant-loop-at l =
    (length l.bytes ≡ l.at)
    × ((k : ℕ) → k < l.at → slice_index l.bytes k ≡ mask_at l.self k)
