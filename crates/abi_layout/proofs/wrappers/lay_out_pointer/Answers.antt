use Rattle.std.proofs.Common.{ap}
use Rattle.abi_layout.specs.Prims.{row_frame}
use Rattle.abi_layout.proofs.Frames.{lawful_made}
use Rattle.abi_layout.proofs.Rows.{pointer_lawful}
use Rattle.abi_layout.proofs.wrappers.lay_out_pointer.Goals as goal

pub row_layout-requires : goal.row_layout-requires
row_layout-requires c = lawful_made _ _ (ap row_frame c.pointer_row-row.ensures) (pointer_lawful c.args.target.now c.args.kind c.requires.row)
