-- What a plan is to its users: of which description it is the plan.
use Rattle.std.specs.Prelude.{◌≡◌, List, None}
use Rattle.abi_num.specs.declared.target.Target.{Target}
use Rattle.abi_det.specs.Frame.{Frame}
use Rattle.abi_det.specs.Offers.{Rules}
use Rattle.abi_layout.specs.Faults.{desc_fault}
use Rattle.abi_layout.specs.Frames.{written_frame}
use Rattle.abi_layout.specs.PartView.{shape}
use Rattle.abi_layout.specs.Plans.{shape_of}
use Rattle.abi_layout.specs.Sums.{written_sums}
use Rattle.abi_layout.specs.Trees.{Tree}
use Rattle.abi_layout.specs.declared.part.Part.{Part}
use Rattle.abi_layout.specs.declared.placed.Placed.{Placed}

-- what the bytes mean, the layout, and the sums in pre-order
pub record Packing : Type 0 where
  pub part : Part
  pub layout : Frame
  pub sums : List Placed

abbrev pub packing : Part → Frame → List Placed → Packing
packing part layout sums = record { part = part; layout = layout; sums = sums }

-- the plan is that of this description, which has no fault, under the rules on the target
pub record IsPlanOf (p : Packing) (rules : Rules) (target : Target) (t : Tree) : Type 0 where
  pub faultless : desc_fault rules target t ≡ None
  pub part : shape p.part ≡ shape_of rules target t
  pub layout : p.layout ≡ written_frame rules target t
  pub sums : p.sums ≡ written_sums rules target 0 t

-- whatever description the plan is of
abbrev pub OfPlan : Packing → (Rules → Target → Tree → Type 0) → Type 0
OfPlan p P =
    (rules : Rules) (target : Target) (t : Tree) → IsPlanOf p rules target t → P rules target t

-- it is the plan of some description
abbrev pub IsSomePlan : Packing → Type 0
IsSomePlan p = (rules : Rules) × ((target : Target) × ((t : Tree) × IsPlanOf p rules target t))
