-- The packed sums of a description, in pre-order, each with the number of its part in post-order. Those of a pointee and of a
-- condition hold no bytes, and are none of the description's.
use Rattle.std.specs.Prelude.{ℕ, ◌+◌, List, [], ◌∷◌, ◌++◌, true, false}
use Rattle.abi_num.specs.declared.target.Target.{Target}
use Rattle.abi_det.specs.Written.{written_placement}
use Rattle.abi_det.specs.Offers.{Rules}
use Rattle.abi_det.specs.declared.placements.Placement.{Placement}
use Rattle.abi_layout.specs.Trees.{Tree, Branches, prim, struct, array, union, sum, core, wrap, stable_if, pointer, no_niches, leaf, none, field, variant_parts, parts}
use Rattle.abi_layout.specs.Frames.{written_frame}
use Rattle.abi_layout.specs.declared.placed.Placed.{Placed}

-- part number `part`, with this placement
abbrev pub numbered_placement : ℕ → Placement → Placed
numbered_placement part p = record {
  part = part;
  place = p.place;
  front = p.front;
  ok_shift = p.ok_shift;
  err_shift = p.err_shift;
  kind = p.kind;
  determinant = p.determinant;
  refusals = p.refusals;
}

-- the sums of a tree whose first part has the number `first`
abbrev mutual
  pub written_sums : Rules → Target → ℕ → Tree → List Placed
  written_sums rules target first (prim p) = []
  written_sums rules target first (struct label fs align) = written_sums_in rules target first fs
  written_sums rules target first (sum names side) =
      numbered_placement (first + variant_parts names (parts (side true)) (parts (side false)))
      (written_placement rules
      (written_frame rules target (side true)) (written_frame rules target (side false)))
      ∷ (written_sums rules target first (side true)
      ++ written_sums rules target (first + parts (side true)) (side false))
  written_sums rules target first (array item len) = written_sums rules target first item
  written_sums rules target first (union side) =
      written_sums rules target first (side true)
      ++ written_sums rules target (first + parts (side true)) (side false)
  written_sums rules target first (core names side) =
      written_sums rules target first (side true)
      ++ written_sums rules target (first + parts (side true)) (side false)
  written_sums rules target first (wrap kind t) = written_sums rules target first t
  written_sums rules target first (stable_if value condition) =
      written_sums rules target first value
  written_sums rules target first (pointer kind t) = []
  written_sums rules target first (no_niches size align niches indirections) = []
  written_sums rules target first (leaf l) = []

  pub written_sums_in : Rules → Target → ℕ → Branches → List Placed
  written_sums_in rules target first none = []
  written_sums_in rules target first (field name t fs) =
      written_sums rules target first t ++ written_sums_in rules target (first + parts t) fs
