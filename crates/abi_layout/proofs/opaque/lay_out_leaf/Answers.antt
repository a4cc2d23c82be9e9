use Rattle.std.proofs.Common.{sym, ◌∙◌}
use Rattle.abi_layout.proofs.LeafRules.{leaf_large}
use Rattle.abi_layout.proofs.PartViews.{raw_items}
use Rattle.abi_layout.proofs.opaque.lay_out_leaf.Goals as goal

pub returns-then-leaf-gt-MAX_SIZE-clause-err : goal.returns-then-leaf-gt-MAX_SIZE-clause-err
returns-then-leaf-gt-MAX_SIZE-clause-err c =
    λ ne. leaf_large c.args.part c.args.leaf.now (sym c.is_leaf.ensures ∙ c.if-not-is_leaf.false) c.if-leaf-gt-MAX_SIZE.true

pub returns-clause-part : goal.returns-clause-part
returns-clause-part c = raw_items c.args.leaf.now.size _ _ _ _ c.in_ok-free.ensures c.in_ok-forbidden.ensures
