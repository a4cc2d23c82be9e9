-- What a counted search is given, what it finds, and how many steps it may take.
use Rattle.std.specs.Prelude.{◌≡◌, ℕ, true, ◌+◌, ◌*◌, List, map, sum, length, is_some}
use Rattle.abi_bits.specs.Pairs.{Pair}
use Rattle.abi_bits.specs.Forbidden.{offered}
use Rattle.abi_det.specs.Frame.{Frame, forbids, head}
use Rattle.abi_det.specs.Roles.{smaller, union_size, is_place}
use Rattle.abi_det.specs.Offers.{Rules, Niche}
use Rattle.abi_det.specs.Search.{IsSpared}
use Rattle.abi_det.specs.Sides.{seen}
use Rattle.abi_det.specs.Written.{written_placement, niched, shared_bits}
use Rattle.abi_det.specs.declared.placements.Placement.{Placement}
use Rattle.abi_det.specs.declared.counted.Found.{Found}
use Rattle.abi_det.specs.declared.side.Side.{Side}

-- the frame of a side
abbrev pub frame_of : Side → Frame
frame_of s = seen s.size s.align s.free s.offered s.headed

-- the side of a frame
abbrev pub side_of : Frame → Side
side_of f = record {
  size = f.size;
  align = f.align;
  offered = offered (forbids f);
  headed = is_some (head f);
  free = f.free;
}

-- what a search finds of a placement
abbrev pub found_of : Placement → Found
found_of p = record {
  place = p.place;
  kind = p.kind;
  determinant = p.determinant;
  refusals = p.refusals;
}

-- the number of bytes in these patterns
abbrev pub pattern_bytes : List (List Pair) → ℕ
pattern_bytes pss = sum (map length pss)

-- eight times the bytes in the patterns of both sides and twice those of the union
abbrev pub most_steps : Side → Side → ℕ
most_steps ok err =
    8 * (pattern_bytes ok.offered + pattern_bytes err.offered
    + 2 * union_size (frame_of ok) (frame_of err))

-- the answer of a search between two sides
abbrev pub IsFoundBy : Rules → Side → Side → Found → Type 0
IsFoundBy rules ok err f = f ≡ found_of (written_placement rules (frame_of ok) (frame_of err))

-- the niche that was found
abbrev pub niche_in : Found → Niche
niche_in f = record { kind = f.kind; test = f.determinant.test }

-- what was found is the niche of an existing place, in bits that both variants leave free
pub record IsNicheOf (ok err : Frame) (f : Found) : Type 0 where
  pub same : f ≡ found_of (niched ok err f.place (niche_in f))
  pub exists : is_place (smaller ok err) (union_size ok err) f.place ≡ true
  pub spared : IsSpared (shared_bits ok err (f.place * (smaller ok err).align)) f.determinant.test
