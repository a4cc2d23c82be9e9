use Rattle.std.proofs.Common.{◌∙◌, refl}
use Rattle.abi_layout.proofs.Frames.{lawful_made, row_made}
use Rattle.abi_layout.proofs.primitives.row_layout.Goals as goal

pub from_lawful-requires : goal.from_lawful-requires
from_lawful-requires c =
    lawful_made _ _ (row_made c.args.row _ c.size.ensures.same refl c.new.ensures c.in_ok-forbidden.ensures refl refl) c.requires

pub returns : goal.returns
returns c =
    c.from_lawful.ensures
    ∙ row_made c.args.row _ c.size.ensures.same refl c.new.ensures c.in_ok-forbidden.ensures refl refl
