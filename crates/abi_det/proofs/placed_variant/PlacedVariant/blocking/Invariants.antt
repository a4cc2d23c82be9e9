use Rattle.std.proofs.Common.{◌≡◌, ◌++◌, map, drop}
use Rattle.abi_bits.specs.Pairs.{moved_pairs}
use Rattle.abi_det.specs.Roles.{union_byte}
use Rattle.abi_det.specs.Written.{first_blocking}
use Rattle.abi_det.proofs.placed_variant.PlacedVariant.blocking.Given as goal

abbrev pub invariant-loop-pattern : goal.invariant-loop-pattern
invariant-loop-pattern l =
    l.offsets ++ map (first_blocking (union_byte l.self.variant.now l.self.shift l.self.size)) (map (moved_pairs l.by) (drop l.pattern-index l.patterns))
    ≡ map (first_blocking (union_byte l.self.variant.now l.self.shift l.self.size)) (map (moved_pairs l.by) l.patterns)
