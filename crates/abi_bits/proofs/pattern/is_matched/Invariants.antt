use Rattle.std.proofs.Common.{◌≡◌, length, drop, true, get_or}
use Rattle.abi_bits.specs.Pairs.{are_below, is_matched}
use Rattle.abi_bits.proofs.pattern.is_matched.Given as goal

abbrev pub invariant-loop-offset : goal.invariant-loop-offset
invariant-loop-offset l = (are_below (length l.bytes) (drop l.offset-index l.pairs) ≡ true)
    × (is_matched l.pairs (λ at. get_or l.bytes at 0) ≡ is_matched (drop l.offset-index l.pairs) (λ at. get_or l.bytes at 0))
