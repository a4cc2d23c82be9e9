-- A frame: what is known of the bytes of a type.
use Rattle.std.specs.Prelude.{ℕ, ◌%◌, List, Bool, ◌&&◌, nat_le, ◌==◌, IsTrue, Option}
use Rattle.std.specs.List.{list_all}
use Rattle.abi_num.specs.Alignment.{is_alignment}
use Rattle.abi_bits.specs.Pairs.{Pair, are_below, max_size}
use Rattle.abi_bits.specs.Forbidden.{Item, Forbidden, items_of, head_of, is_solid_item}
use Rattle.abi_bits.specs.declared.saturating_add_value.SaturatingAddValue.{SaturatingAddValue}

pub record Frame : Type 0 where
  -- in bytes
  pub size : ℕ
  pub align : ℕ
  -- the entries of the set of free bits
  pub free : List Pair
  -- the values that the bytes never have
  pub forbidden : Forbidden
  pub niches : SaturatingAddValue
  pub indirections : Bool

-- the forbidden items from left to right
abbrev pub forbids : Frame → List Item
forbids f = items_of f.forbidden

-- what the leftmost leaf of the forbidden values offers
abbrev pub head : Frame → Option (List Pair)
head f = head_of f.forbidden

-- the rule of lawful layouts
abbrev pub is_lawful : Frame → Bool
is_lawful f =
    is_alignment f.align && nat_le f.size max_size && f.size % f.align == 0
    && are_below f.size f.free && list_all (is_solid_item f.size f.free) (forbids f)

abbrev pub IsLawful : Frame → Type 0
IsLawful f = IsTrue (is_lawful f)
