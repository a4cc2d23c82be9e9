use Rattle.std.proofs.Common.{◌≡◌, ◌-◌, ℕ, bit_or, cond, leb, get_or, length, take}
use Rattle.abi_bits.proofs.span.or_bytes.Given as goal

abbrev pub invariant-loop-index : goal.invariant-loop-index
invariant-loop-index l = record {
  len : length l.bytes.items ≡ length l.initial.bytes.items;
  joined : (k : ℕ) → get_or l.bytes.items k 0 ≡ bit_or (get_or l.initial.bytes.items k 0) (cond (leb l.from k) (get_or (take l.index l.other) (k - l.from) 0) 0);
}
