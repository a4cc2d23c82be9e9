use Rattle.std.proofs.Common.{◌≡◌, ℕ, bit_or, true}
use Rattle.abi_bits.specs.Pairs.{are_below}
use Rattle.abi_bits.specs.Mask.{mask_at, IsMask}
use Rattle.abi_layout.specs.Builders.{whole_between}
use Rattle.abi_layout.proofs.builders.with_whole.Given as goal

abbrev pub invariant-loop-at : goal.invariant-loop-at
invariant-loop-at l = record {
  valid : IsMask l.unused;
  below : are_below l.at l.unused ≡ true;
  bytes : (k : ℕ) → mask_at l.unused k ≡ bit_or (mask_at l.initial.unused k) (whole_between l.from l.at k);
}
