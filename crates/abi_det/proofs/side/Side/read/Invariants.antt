use Rattle.std.proofs.Common.{◌≡◌, ◌+◌, ◌⊎◌}
use Rattle.abi_bits.specs.Mask.{mask_at, entries_below, IsMask}
use Rattle.abi_det.proofs.side.Side.read.Given as goal

abbrev pub invariant-loop-at : goal.invariant-loop-at
invariant-loop-at g l = record {
  told : l.mask ≡ entries_below (mask_at l.self.free) l.at;
  valid : (l.at ≡ 0) ⊎ IsMask l.self.free;
  counted : l.steps ≡ l.initial.steps + l.at;
}
