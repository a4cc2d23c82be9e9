-- The written frame of a description: each part's frame from those of its own parts.
use Rattle.std.specs.Prelude.{List, [], ◌∷◌, true, false}
use Rattle.abi_bits.specs.declared.saturating_add_value.SaturatingAddValue.TheVariants as count
use Rattle.abi_num.specs.declared.target.Target.{Target}
use Rattle.abi_det.specs.Frame.{Frame}
use Rattle.abi_det.specs.Offers.{Rules}
use Rattle.abi_det.specs.Written.{written_sum}
use Rattle.abi_layout.specs.Builders.{overlaid, repeated, bare}
use Rattle.abi_layout.specs.CoreSums.{core_frame}
use Rattle.abi_layout.specs.Leaves.{leaf_frame}
use Rattle.abi_layout.specs.Prims.{prim_frame, pointer_row, row_frame}
use Rattle.abi_layout.specs.Structs.{struct_frame}
use Rattle.abi_layout.specs.Trees.{Tree, Branches, prim, struct, array, union, sum, core, wrap, stable_if, pointer, no_niches, leaf, none, field}
use Rattle.abi_layout.specs.declared.desc.WrapKind.{WrapKind}
use Rattle.abi_layout.specs.declared.desc.WrapKind.TheVariants as wrapper

-- what a wrapper changes: some have no niche to count, and one is never plain data
abbrev pub wrapped : WrapKind → Frame → Frame
wrapped wrapper.ManuallyDrop f = f
wrapped wrapper.MaybeUninit f = record f { niches = count.B0 }
wrapped wrapper.UnsafeCell f = record f { niches = count.B0 }
wrapped wrapper.Pin f = f
wrapped wrapper.NotPod f = record f { indirections = true }
wrapped wrapper.OrInfallible f = f

abbrev mutual
  pub written_frame : Rules → Target → Tree → Frame
  written_frame rules target (prim p) = prim_frame target p
  written_frame rules target (struct label fs align) =
      struct_frame (written_frames rules target fs) align
  written_frame rules target (array item len) = repeated (written_frame rules target item) len
  written_frame rules target (union side) =
      overlaid (written_frame rules target (side true)) (written_frame rules target (side false))
  written_frame rules target (sum names side) =
      written_sum rules (written_frame rules target (side true))
      (written_frame rules target (side false))
  written_frame rules target (core names side) =
      core_frame (written_frame rules target (side true)) (written_frame rules target (side false))
  written_frame rules target (wrap kind t) = wrapped kind (written_frame rules target t)
  written_frame rules target (stable_if value condition) = written_frame rules target value
  written_frame rules target (pointer kind t) = row_frame (pointer_row target kind)
  written_frame rules target (no_niches size align niches indirections) =
      bare size align niches indirections
  written_frame rules target (leaf l) = leaf_frame l

  pub written_frames : Rules → Target → Branches → List Frame
  written_frames rules target none = []
  written_frames rules target (field name t fs) =
      written_frame rules target t ∷ written_frames rules target fs
