-- The plan of a description: each part at its offset, each sum with its written placement.
use Rattle.std.specs.Prelude.{◌≡◌, ℕ, ◌+◌, ◌-◌, [], Bool, true, false, not}
use Rattle.abi_num.specs.declared.target.Target.{Target}
use Rattle.abi_det.specs.Frame.{Frame}
use Rattle.abi_det.specs.Offers.{Rules}
use Rattle.abi_det.specs.Roles.{union_size}
use Rattle.abi_det.specs.Written.{written_placement}
use Rattle.abi_det.specs.declared.determinant.Test.TheVariants as test
use Rattle.abi_det.specs.declared.placements.Placement.{Placement}
use Rattle.abi_layout.specs.Builders.{start_after}
use Rattle.abi_layout.specs.CoreSums.{payload_first, payload, absence}
use Rattle.abi_layout.specs.Prims.{scalar_of, pointer_row}
use Rattle.abi_layout.specs.Structs.{struct_frame}
use Rattle.abi_layout.specs.Trees as trees
use Rattle.abi_layout.specs.Trees.{Tree, Branches, sides, leaf_items}
use Rattle.abi_layout.specs.Frames.{written_frame, written_frames}
use Rattle.abi_layout.specs.Shape.{Shape, Shapes, scalar, raw, atom, fields, sum, last, field, repeated}
use Rattle.abi_layout.specs.declared.scalar.Scalar.TheVariants as scalars
use Rattle.abi_layout.specs.declared.part.Compound.TheVariants as compound
use Rattle.abi_layout.specs.declared.part.Sort.{Sort}
use Rattle.abi_layout.specs.declared.part.Sort.TheVariants as sort
use Rattle.abi_layout.specs.declared.part.SumLayout.{SumLayout}

-- where the variants of a sum of `size` bytes stand by its placement, counted from its first byte
abbrev pub sum_layout_at : ℕ → Placement → SumLayout
sum_layout_at size p = record {
  ok = p.front + p.ok_shift;
  err = p.front + p.err_shift;
  size = size;
  determinant = p.determinant;
}

-- by the written placement
abbrev pub sum_layout_of : Rules → Frame → Frame → SumLayout
sum_layout_of rules ok err =
    sum_layout_at (union_size ok err + (written_placement rules ok err).front)
    (written_placement rules ok err)

-- both variants of a core sum stand at its start; what the payload never is means the other
abbrev pub core_layout : Frame → Frame → SumLayout
core_layout ok err = record {
  ok = 0;
  err = 0;
  size = (payload ok err).size;
  determinant =
      record { «not» = not (payload_first ok err); test = test.ValueIsErr (absence ok err) };
}

abbrev mutual
  pub shape_of : Rules → Target → Tree → Shape
  shape_of rules target (trees.prim p) = atom (scalar (scalar_of target p))
  shape_of rules target (trees.struct label fs align) =
      fields compound.Struct (struct_frame (written_frames rules target fs) align).size
      (shapes_of rules target 0 fs)
  shape_of rules target (trees.sum names side) =
      sum names (sides (shape_of rules target (side true)) (shape_of rules target (side false)))
      (sum_layout_of rules
      (written_frame rules target (side true)) (written_frame rules target (side false)))
  shape_of rules target (trees.array item len) =
      fields compound.Array (written_frame rules target (trees.array item len)).size
      (repeated len (shape_of rules target item))
  shape_of rules target (trees.union side) =
      atom (raw (written_frame rules target (trees.union side)).size [] [])
  shape_of rules target (trees.core names side) =
      sum names (sides (shape_of rules target (side true)) (shape_of rules target (side false)))
      (core_layout
      (written_frame rules target (side true)) (written_frame rules target (side false)))
  shape_of rules target (trees.wrap kind t) = shape_of rules target t
  shape_of rules target (trees.stable_if value condition) = shape_of rules target value
  shape_of rules target (trees.pointer kind t) = atom (scalar (pointer_row target kind).scalar)
  shape_of rules target (trees.no_niches size align niches indirections) = atom (raw size [] [])
  shape_of rules target (trees.leaf l) = atom (raw l.size l.free (leaf_items l))

  -- the fields after `end` bytes
  pub shapes_of : Rules → Target → ℕ → Branches → Shapes
  shapes_of rules target end trees.none = last
  shapes_of rules target end (trees.field name t fs) =
      field (start_after end (written_frame rules target t) - end) (shape_of rules target t)
      (shapes_of rules target
      (start_after end (written_frame rules target t) + (written_frame rules target t).size) fs)

-- an option's second variant is `()`: what `None` has
abbrev pub is_second : Sort → Shape → Bool
is_second sort.OfResult s = true
is_second sort.OfOption (atom (scalar scalars.Unit)) = true
is_second sort.OfOption s = false

-- it is so in each sum
abbrev mutual
  pub IsNamed : Shape → Type 0
  IsNamed (atom a) = Unit {0}
  IsNamed (fields compound n fs) = AreNamed fs
  IsNamed (sum names side at) =
      ((first : Bool) → IsNamed (side first)) × (is_second names (side false) ≡ true)

  pub AreNamed : Shapes → Type 0
  AreNamed last = Unit {0}
  AreNamed (field gap s fs) = IsNamed s × AreNamed fs
