use Rattle.std.proofs.Common.{sym, ◌∙◌}
use Rattle.abi_bits.specs.Pairs.{moved_pairs}
use Rattle.abi_det.proofs.Moving.{free_below}
use Rattle.abi_det.proofs.placed_variant.PlacedVariant.first_free.Goals as goal

pub moved-requires : goal.moved-requires
moved-requires c =
    let free = sym c.lies_free.ensures ∙ c.if-lies_free.true in
    free_below c.args.self.now.variant.now c.args.self.now.shift c.args.self.now.size (moved_pairs c.args.by c.pattern-item.result) c.args.self.now.within
    (rw c.pairs.ensures.same at free)
