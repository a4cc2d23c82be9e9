-- What has no parts: its values, the bytes in which each stands, which bits are held, and which bytes are legal.
use Rattle.std.specs.Prelude.{◌≡◌, ℕ, List, Bool, true, false, ◌&&◌, not, nat_lt}
use Rattle.abi_bits.specs.Mask.{IsMask}
use Rattle.abi_bits.specs.Forbidden.{is_solid_item}
use Rattle.abi_layout.specs.Prims.{scalar_size}
use Rattle.abi_layout.specs.Shape.{Atom, scalar, raw}
use Rattle.abi_pack.specs.ByteMap.{ByteMap, has}
use Rattle.abi_pack.specs.Plain.{Plain, bytes, bytes_in}
use Rattle.abi_pack.specs.Raw.{are_raw, match_none, cleared, bytes_shown}
use Rattle.abi_pack.specs.Scalars.{is_value, stored, is_legal, scalar_shown, ShowsScalar}
use Rattle.std.specs.List.{list_all}

abbrev pub has_value : Atom → Plain → Bool
has_value (scalar c) v = is_value c v
has_value (raw n free its) (bytes xs) = are_raw n free its xs
has_value (raw n free its) _ = false

abbrev pub atom_bytes : Atom → Plain → List ℕ
atom_bytes (scalar c) v = stored c v
atom_bytes (raw n free its) v = bytes_in v

-- the bytes are those of some value
abbrev pub is_legal_atom : Atom → ByteMap → Bool
is_legal_atom (scalar c) f = is_legal c f
is_legal_atom (raw n free its) f = match_none its f

-- the value that legal bytes show
abbrev pub atom_shown : Atom → ByteMap → Plain
atom_shown (scalar c) f = scalar_shown c f
atom_shown (raw n free its) f = bytes_shown free n f

abbrev pub ShowsAtom : Atom → Plain → ByteMap → Type 0
ShowsAtom (scalar c) v f = ShowsScalar c v f
ShowsAtom (raw n free its) (bytes xs) f = (match_none its f ≡ true) × (xs ≡ cleared free n f)
ShowsAtom (raw n free its) _ f = ⊥

-- each bit but the free ones
abbrev pub atom_holds : Atom → ℕ → ℕ → Bool
atom_holds (scalar c) i k = nat_lt i (scalar_size c)
atom_holds (raw n free its) i k = nat_lt i n && not (has free i k)

-- what the layout keeps: entries in order, and no free bit in a forbidden byte
abbrev pub IsAtom : Atom → Type 0
IsAtom (scalar c) = Unit {0}
IsAtom (raw n free its) = IsMask free × (list_all (is_solid_item n free) its ≡ true)
