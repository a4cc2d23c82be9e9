use Rattle.std.proofs.Common.{sym, ◌∙◌}
use Rattle.abi_bits.proofs.Forbids.{items_or}
use Rattle.abi_layout.proofs.SolePatterns.{two_are_not_sole}
use Rattle.abi_layout.proofs.core_sums.+sole_pattern.Goals as goal

pub returns-else-is_void-2 : goal.returns-else-is_void-2
returns-else-is_void-2 t c =
    let left = rw c.deref-else-is_void.ensures at c.is_void-else-is_void.ensures in
    let right = rw c.deref.ensures at c.is_void.ensures in
    rw (c.in-Or.is, items_or) (two_are_not_sole _ _ (sym left ∙ c.if-is_void-2.false) (sym right ∙ c.if-is_void.false))
