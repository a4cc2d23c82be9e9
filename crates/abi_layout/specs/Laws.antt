-- Laws over the definitions of layouts, each in the words of its subject.
use Rattle.std.specs.Prelude.{◌≡◌, List, Option, Some, None, ℕ, IsTrue}
use Rattle.abi_num.specs.Target.{is_row}
use Rattle.abi_num.specs.declared.target.Target.{Target}
use Rattle.abi_det.specs.Frame.{Frame, IsLawful}
use Rattle.abi_det.specs.Offers.{Rules}
use Rattle.abi_det.specs.SoundPlacement.{IsWellFormed}
use Rattle.abi_layout.specs.Structs.{struct_frame}
use Rattle.abi_layout.specs.Folds.{opened, closed_by, AreLawful}
use Rattle.abi_layout.specs.Trees.{Tree}
use Rattle.abi_layout.specs.Frames.{written_frame}
use Rattle.abi_layout.specs.Faults.{part_fault, desc_fault}
use Rattle.abi_layout.specs.declared.desc_error.DescError.TheVariants as of_desc

-- folding lawful fields from the left and closing what comes out gives the struct by positions
abbrev pub FoldLaw : Type 0
FoldLaw =
    (fs : List Frame) (align : Option ℕ) → AreLawful fs
    → closed_by align (opened fs) ≡ struct_frame fs align

-- a description without a fault has a lawful frame
abbrev pub LawfulLaw : Type 0
LawfulLaw =
    (rules : Rules) (target : Target) (first : ℕ) (t : Tree) → IsTrue (is_row target)
    → part_fault rules target first t ≡ None
    → IsLawful (written_frame rules target t)

-- and keeps what a placement asks of its variants
abbrev pub WellFormedLaw : Type 0
WellFormedLaw =
    (rules : Rules) (target : Target) (first : ℕ) (t : Tree) → IsTrue (is_row target)
    → part_fault rules target first t ≡ None
    → IsWellFormed (written_frame rules target t)

-- the fault of a description is never want of memory
abbrev pub CauseLaw : Type 0
CauseLaw =
    (rules : Rules) (target : Target) (t : Tree)
    → desc_fault rules target t ≡ Some of_desc.OutOfMemory → ⊥
