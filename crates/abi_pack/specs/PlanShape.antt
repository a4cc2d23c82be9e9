-- What the part of every plan keeps.
use Rattle.std.specs.Prelude.{◌<◌, ◌^◌, List}
use Rattle.abi_layout.specs.Plans.{IsNamed}
use Rattle.abi_layout.specs.Shape.{Shape, size}
use Rattle.abi_pack.specs.Consistent.{IsConsistent}
use Rattle.abi_det.specs.Frame.{Frame}
use Rattle.abi_layout.specs.PartView.{shape}
use Rattle.abi_layout.specs.declared.part.Part.{Part}
use Rattle.abi_layout.specs.declared.placed.Placed.{Placed}
use Rattle.abi_pack.specs.Packing.{packing, IsSomePlan}

pub record IsPlanShape (s : Shape) : Type 0 where
  pub sound : IsConsistent s
  pub named : IsNamed s
  pub small : size s < 2 ^ 32

-- what a plan is: its part keeps that, and it is the plan of some description
abbrev pub IsPlan : Part → Frame → List Placed → Type 0
IsPlan part layout sums = IsPlanShape (shape part) × IsSomePlan (packing part layout sums)
