use Rattle.std.proofs.Common.{◌∙◌, refl}
use Rattle.abi_layout.proofs.LeafRules.{leaf_made}
use Rattle.abi_layout.proofs.leaves.leaf_layout.Goals as goal

pub from_lawful-requires : goal.from_lawful-requires
from_lawful-requires c =
    (leaf_made c.args.leaf.now _ c.requires.form c.requires.small refl refl c.in_ok-unused.ensures c.in_ok-forbidden.ensures refl refl).0

pub returns : goal.returns
returns c =
    c.from_lawful.ensures
    ∙ (leaf_made c.args.leaf.now _ c.requires.form c.requires.small refl refl c.in_ok-unused.ensures c.in_ok-forbidden.ensures refl refl).1
