use Rattle.std.proofs.Common.{◌≡◌, eqb, drop}
use Rattle.std.specs.List.{list_any}
use Rattle.abi_bits.specs.Pairs.{moved_pairs}
use Rattle.abi_det.proofs.placed_variant.names.Given as goal

abbrev pub invariant-loop-offset : goal.invariant-loop-offset
invariant-loop-offset l =
    list_any (λ p. eqb p.0 l.at) (moved_pairs l.by (drop l.offset-index l.pairs)) ≡ list_any (λ p. eqb p.0 l.at) (moved_pairs l.by l.pairs)
