use Rattle.std.proofs.Common.{ap}
use Rattle.abi_layout.specs.Prims.{row_frame}
use Rattle.abi_layout.proofs.Frames.{lawful_made}
use Rattle.abi_layout.proofs.Rows.{row_lawful}
use Rattle.abi_layout.proofs.primitives.prim_layout.Goals as goal

pub row_layout-requires : goal.row_layout-requires
row_layout-requires c = lawful_made _ _ (ap row_frame c.row_of.ensures) (row_lawful c.args.target.now _ c.requires)
