use Rattle.std.proofs.Common.{sym, ◌∙◌, arith}
use Rattle.abi_layout.proofs.LeafRules.{as_solid}
use Rattle.abi_layout.proofs.leaves.is_leaf.Goals as goal

pub returns : goal.returns
returns c =
    as_solid c.args.leaf.now _ _ _ c.as_slice-free.ensures c.as_slice-forbidden.ensures (sym c.is_sized.ensures ∙ c.if-not-is_sized.false)
    (sym c.rise.ensures ∙ c.if-not-rise.false) (sym c.have_bits.ensures ∙ c.if-not-have_bits.false) (omega (arith, c.if-forbidden-gt-MAX_ITEMS.false))
    (sym c.are_items.ensures ∙ c.if-not-are_items.false) c.are_solid.ensures
