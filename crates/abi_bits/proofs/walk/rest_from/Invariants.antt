use Rattle.std.proofs.Common.{◌≡◌, ◌+◌, ◌<◌, ◌≤◌, ◌⊎◌, ℕ, get_or, length}
use Rattle.abi_bits.proofs.walk.rest_from.Given as goal

abbrev pub invariant-loop-index : goal.invariant-loop-index
invariant-loop-index l = record {
  inside : l.index ≤ length l.bytes;
  reached : (l.from ≤ l.start + l.index) ⊎ (length l.bytes ≤ l.index);
  none : (k : ℕ) → k < l.index → l.from ≤ l.start + k → get_or l.bytes k 0 ≡ 0;
}
