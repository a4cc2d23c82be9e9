use Rattle.std.proofs.Common.{◌≡◌, ℕ, ◌<◌, get_or, bit_and}
use Rattle.abi_bits.specs.Mask.{mask_at}
use Rattle.abi_pack.proofs.raw.are_clear.Given as goal

abbrev pub invariant-loop-at : goal.invariant-loop-at
invariant-loop-at l = (i : ℕ) → i < l.at → bit_and (mask_at l.free i) (get_or l.bytes i 0) ≡ 0
