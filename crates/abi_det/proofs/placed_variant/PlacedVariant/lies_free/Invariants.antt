use Rattle.std.proofs.Common.{◌≡◌, IsTrue, drop}
use Rattle.abi_bits.specs.Pairs.{are_below, moved_pairs}
use Rattle.abi_det.specs.Roles.{union_byte, lies_free}
use Rattle.abi_det.proofs.placed_variant.PlacedVariant.lies_free.Given as goal

abbrev pub invariant-loop-offset : goal.invariant-loop-offset
invariant-loop-offset l =
    (lies_free (union_byte l.self.variant.now l.self.shift l.self.size) (moved_pairs l.by (drop l.offset-index l.pairs))
    ≡ lies_free (union_byte l.self.variant.now l.self.shift l.self.size) (moved_pairs l.by l.pairs))
    × IsTrue (are_below 1048576 (drop l.offset-index l.pairs))
