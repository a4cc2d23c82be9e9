-- How many shapes and fields a shape has: what falls with each step into it.
use Rattle.std.proofs.Common.{◌≡◌, ℕ, ◌+◌, ◌<◌, List, Bool, true, false, arith}
use Rattle.std.specs.declared.boxed.Box.{Box}
use Rattle.std.specs.declared.alloc.Global.{Global}
use Rattle.abi_layout.specs.Shape.{Shape, Shapes, atom, fields, sum, last, field}
use Rattle.abi_layout.specs.Trees.{sides}
use Rattle.abi_pack.specs.View.{shape, shapes}
use Rattle.abi_layout.specs.declared.part.Sort.{Sort}
use Rattle.abi_layout.specs.declared.part.SumLayout.{SumLayout}
use Rattle.abi_layout.specs.declared.part.PartField.{PartField}
use Rattle.abi_layout.specs.declared.part.Part.{Part}
use Rattle.abi_layout.specs.declared.part.Part.TheVariants as part
use Rattle.abi_pack.proofs.Views.{shape_struct, shape_sum}

abbrev mutual
  pub nodes : Shape → ℕ
  nodes (atom a) = 1
  nodes (fields compound n fs) = 1 + nodes_in fs
  nodes (sum names side at) = 1 + (nodes (side true) + nodes (side false))

  pub nodes_in : Shapes → ℕ
  nodes_in last = 1
  nodes_in (field gap s fs) = 1 + (nodes s + nodes_in fs)

-- the fields of a struct have fewer
pub nodes_fewer : (p : Part) (fs all : List PartField) (n : ℕ) → p ≡ part.Struct all n → fs ≡ all → nodes_in (shapes fs) < nodes (shape p)
nodes_fewer p fs all n e same = rw (e, same, shape_struct all n) (omega arith)

side_fewer : (a b : Shape) (first : Bool) → nodes (sides a b first) < 1 + (nodes a + nodes b)
side_fewer a b true = omega arith
side_fewer a b false = omega arith

-- and a variant of a sum
pub variant_fewer : (p q : Part) (names : Sort) (a b : Box Part Global) (at : SumLayout) (first : Bool) → p ≡ part.Sum names a b at
    → shape q ≡ sides (shape a.value) (shape b.value) first → nodes (shape q) < nodes (shape p)
variant_fewer p q names a b at first e is = rw (e, shape_sum names a b at, is) (side_fewer (shape a.value) (shape b.value) first)
