use Rattle.std.proofs.Common.{◌∙◌}
use Rattle.abi_layout.proofs.Opening.{one_alone, several}
use Rattle.abi_layout.proofs.builders.array_of.Goals as goal

pub returns-then-len-eq1 : goal.returns-then-len-eq1
returns-then-len-eq1 c = one_alone c.args.item.now _ c.args.len c.if-len-eq1.true c.in_ok-copy.ensures

pub bare-requires : goal.bare-requires
bare-requires c =
    (several c.args.item.now c.args.len _ _ _ _ c.size.ensures.lawful c.requires.room c.if-len-eq1.false (cc) c.align.ensures.same c.niches_of_row.ensures c.indirections.ensures).0

pub returns : goal.returns
returns c =
    c.bare.ensures
    ∙ (several c.args.item.now c.args.len _ _ _ _ c.size.ensures.lawful c.requires.room c.if-len-eq1.false (cc) c.align.ensures.same c.niches_of_row.ensures c.indirections.ensures).1
