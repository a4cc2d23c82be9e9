use Rattle.std.proofs.Common.{◌≡◌, drop}
use Rattle.abi_det.specs.FrameOf.{frame}
use Rattle.abi_layout.specs.Builders.{IsOpen}
use Rattle.abi_layout.specs.Structs.{end_of}
use Rattle.abi_layout.specs.Folds.{folded, AreLawful}
use Rattle.abi_layout.proofs.structs.with_fields.Given as goal

-- what is left of the fields makes of the fields so far what all of them make
abbrev pub invariant-loop-field : goal.invariant-loop-field
invariant-loop-field l = record {
  built : IsOpen (frame l.whole);
  same : folded (frame l.whole) (drop l.field-index l.others) ≡ folded (frame l.fn.raw) l.others;
  ends : end_of l.whole.size (drop l.field-index l.others) ≡ end_of l.fn.raw.size l.others;
  lawful : AreLawful (drop l.field-index l.others);
}
