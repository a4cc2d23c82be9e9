use Rattle.std.proofs.Common.{refl}
use Rattle.abi_layout.proofs.LeafRules.{first_pattern, other_patterns, no_items, nothing_tree}
use Rattle.abi_layout.proofs.leaves.forbidden_of.Goals as goal

pub values_of-requires : goal.values_of-requires
values_of-requires c =
    first_pattern c.args.leaf.now c.as_slice.result.now _ _ c.requires.form c.requires.small c.as_slice.ensures c.in-Some.ensures.cases.0

pub with_items-requires : goal.with_items-requires
with_items-requires c =
    other_patterns c.args.leaf.now c.as_slice.result.now _ _ c.requires.form c.requires.small c.as_slice.ensures c.in-Some.ensures.cases.0

pub returns-in-None : goal.returns-in-None
returns-in-None c =
    let none = no_items c.args.leaf.now c.as_slice.result.now c.as_slice.ensures c.in-None.ensures.cases in rw (none, nothing_tree) refl
