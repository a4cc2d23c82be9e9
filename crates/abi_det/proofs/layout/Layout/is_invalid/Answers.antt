use Rattle.std.proofs.Common.{length}
use Rattle.abi_det.specs.FrameOf.{frame}
use Rattle.abi_det.proofs.Lawful.{items_in_bytes}
use Rattle.abi_det.proofs.layout.Layout.is_invalid.Goals as goal

pub is_invalid-requires : goal.is_invalid-requires
is_invalid-requires c = items_in_bytes (frame c.self.inside.raw) (length c.args.bytes.now) c.self.invariant (rw (← c.self.view_is) at c.requires)
