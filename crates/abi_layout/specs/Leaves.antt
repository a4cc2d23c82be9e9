-- Types that are described by their layout alone: which descriptions are well-formed, and their frames.
use Rattle.std.specs.Prelude.{◌≡◌, ℕ, ◌+◌, ◌%◌, List, [], ◌∷◌, Bool, true, ◌&&◌, not, nat_le, nat_lt, ◌==◌, length}
use Rattle.std.specs.List.{list_all}
use Rattle.abi_num.specs.Alignment.{is_alignment}
use Rattle.abi_bits.specs.Pairs.{Pair, is_empty, are_bytes}
use Rattle.abi_bits.specs.Forbidden.{Item, pattern, range, offer, offered, tree_of, is_solid_item}
use Rattle.abi_det.specs.Frame.{Frame}
use Rattle.abi_layout.specs.Trees.{leaf_items}
use Rattle.abi_layout.specs.declared.desc.LeafDesc.{LeafDesc}

-- the size is a multiple of an alignment
abbrev pub is_sized : ℕ → ℕ → Bool
is_sized size align = is_alignment align && size % align == 0

-- the offsets rise from `least` on and lie below n
abbrev pub rise : ℕ → ℕ → List Pair → Bool
rise n least [] = true
rise n least (p ∷ ps) = nat_le least p.0 && nat_lt p.0 n && rise n (p.0 + 1) ps

-- the offsets rise, below some bound
abbrev pub AreRising : List Pair → Type 0
AreRising ps = (n : ℕ) × (rise n 0 ps ≡ true)

-- each mask has a bit
abbrev pub have_bits : List Pair → Bool
have_bits es = list_all (λ e. nat_lt 0 e.1) es

-- some bytes, each named once, or a range
abbrev pub is_item : ℕ → Item → Bool
is_item n (pattern ps) = not (is_empty ps) && rise n 0 ps
is_item n (range at least greatest) = true

-- and what it offers are values of bytes
abbrev pub is_byte_item : ℕ → Item → Bool
is_byte_item n it = is_item n it && are_bytes (offer it)

-- the greatest number of items that a leaf may forbid
abbrev pub max_items : ℕ
max_items = 256

-- each mask, and each value that an item offers, is one of a byte
abbrev pub is_in_bytes : LeafDesc → Bool
is_in_bytes l = are_bytes l.free && list_all are_bytes (offered (leaf_items l))

-- free bits in rising order below the size; items in bytes below the size without a free bit, patterns rising and ranges of more than one value
abbrev pub is_leaf : LeafDesc → Bool
is_leaf l =
    is_sized l.size l.align && rise l.size 0 l.free && have_bits l.free
    && nat_le (length l.forbidden) max_items
    && list_all (is_item l.size) (leaf_items l)
    && list_all (is_solid_item l.size l.free) (leaf_items l)
    && is_in_bytes l

-- as it is described
unfoldable pub leaf_frame : LeafDesc → Frame
leaf_frame l = record {
  size = l.size;
  align = l.align;
  free = l.free;
  forbidden = tree_of (leaf_items l);
  niches = l.niches;
  indirections = l.indirections;
}
