use Rattle.std.proofs.Common.{◌≡◌, map, drop}
use Rattle.std.specs.List.{find}
use Rattle.abi_bits.specs.Pairs.{moved_pairs}
use Rattle.abi_det.specs.Roles.{union_byte, lies_free}
use Rattle.abi_det.proofs.placed_variant.PlacedVariant.first_free.Given as goal

abbrev pub invariant-loop-pattern : goal.invariant-loop-pattern
invariant-loop-pattern l =
    find (lies_free (union_byte l.self.variant.now l.self.shift l.self.size)) (map (moved_pairs l.by) (drop l.pattern-index l.patterns))
    ≡ find (lies_free (union_byte l.self.variant.now l.self.shift l.self.size)) (map (moved_pairs l.by) l.patterns)
