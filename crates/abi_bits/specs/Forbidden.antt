-- Forbidden values as a plain tree, its items from left to right, and what its leftmost leaf offers.
use Rattle.std.specs.Prelude.{ℕ, ◌+◌, List, [], ◌∷◌, ◌++◌, Bool, true, false, ◌&&◌, nat_le, nat_lt, ◌==◌, Option, Some, None, IsTrue, map}
use Rattle.std.specs.List.{list_all, find}
use Rattle.abi_bits.specs.Pairs.{Pair, is_matched, moved_pairs, are_below, max_size}
use Rattle.abi_bits.specs.Mask.{mask_at, lies_free}
use Rattle.abi_bits.specs.declared.forbidden_values.ForbiddenValues.{ForbiddenValues, fold-ForbiddenValues}
use Rattle.abi_bits.specs.declared.forbidden_values.ForbiddenValues.TheOpen.{ForbiddenValues-F}
use Rattle.abi_bits.specs.declared.single_forbidden_value.SingleForbiddenValue.{SingleForbiddenValue}
use Rattle.abi_bits.specs.declared.single_forbidden_value.SingleForbiddenValue.TheVariants as single_variant

-- a value of some bytes, or the values of one byte from the least to the greatest
pub data Item : Type 0 where
  pattern : List Pair → Item
  range : ℕ → ℕ → ℕ → Item

-- the image has the value that the item forbids
abbrev pub is_match : (ℕ → ℕ) → Item → Bool
is_match image (pattern ps) = is_matched ps image
is_match image (range at least greatest) = nat_le least (image at) && nat_le (image at) greatest

-- the one pattern that an item offers as a niche
abbrev pub offer : Item → List Pair
offer (pattern ps) = ps
offer (range at least greatest) = (at, least) ∷ []

abbrev pub moved_item : ℕ → Item → Item
moved_item by (pattern ps) = pattern (moved_pairs by ps)
moved_item by (range at least greatest) = range (at + by) least greatest

-- every byte that the item names lies below n
abbrev pub is_item_below : ℕ → Item → Bool
is_item_below n (pattern ps) = are_below n ps
is_item_below n (range at least greatest) = nat_lt at n

abbrev pub are_items_below : ℕ → List Item → Bool
are_items_below n its = list_all (is_item_below n) its

abbrev pub is_ranged : Item → Bool
is_ranged (pattern ps) = true
is_ranged (range at least greatest) = nat_lt least greatest

-- what a type's forbidden values keep where they stand in a layout: bytes below the greatest size, and ranges that rise
abbrev pub are_sound : List Item → Bool
are_sound its = are_items_below max_size its && list_all is_ranged its

abbrev pub AreSound : List Item → Type 0
AreSound its = IsTrue (are_sound its)

-- the byte lies below the size and has no free bit
abbrev pub is_solid_byte : ℕ → List Pair → ℕ → Bool
is_solid_byte size free at = nat_lt at size && mask_at free at == 0

-- a range that rises, or a pattern, in bytes below the size without a free bit
abbrev pub is_solid_item : ℕ → List Pair → Item → Bool
is_solid_item size free (pattern ps) = list_all (λ p. is_solid_byte size free p.0) ps
is_solid_item size free (range at least greatest) =
    is_solid_byte size free at && nat_lt least greatest

-- what the forbidden values are: nothing, one item, or what either of two forbids
pub data Forbidden : Type 0 where
  nothing : Forbidden
  alone : Item → Forbidden
  or : Forbidden → Forbidden → Forbidden

abbrev pub tree_step : ForbiddenValues-F Forbidden → Forbidden
tree_step ForbiddenValues-F.End = nothing
tree_step (ForbiddenValues-F.Array p) = alone (pattern p)
tree_step (ForbiddenValues-F.ForbiddenRange least greatest at) = alone (range at least greatest)
tree_step (ForbiddenValues-F.Or left right) = or left.value right.value

-- the values as a plain tree
abbrev pub tree : ForbiddenValues → Forbidden
tree = fold-ForbiddenValues Forbidden tree_step

-- the leaves from left to right, without those that forbid nothing
abbrev pub items_of : Forbidden → List Item
items_of nothing = []
items_of (alone item) = item ∷ []
items_of (or left right) = items_of left ++ items_of right

-- what the very leftmost leaf offers
abbrev pub head_of : Forbidden → Option (List Pair)
head_of nothing = None
head_of (alone item) = Some (offer item)
head_of (or left right) = head_of left

-- the very rightmost leaf is a pattern
abbrev pub ends_in_pattern : Forbidden → Bool
ends_in_pattern nothing = false
ends_in_pattern (alone (pattern ps)) = true
ends_in_pattern (alone (range at least greatest)) = false
ends_in_pattern (or left right) = ends_in_pattern right

-- each leaf, moved
abbrev pub moved_tree : ℕ → Forbidden → Forbidden
moved_tree by nothing = nothing
moved_tree by (alone item) = alone (moved_item by item)
moved_tree by (or left right) = or (moved_tree by left) (moved_tree by right)

-- two joined: nothing gives way, a range stands before what it is joined with, all else after it
abbrev pub joined : Forbidden → Forbidden → Forbidden
joined nothing other = other
joined (alone (range at least greatest)) other = or (alone (range at least greatest)) other
joined (alone (pattern ps)) other = or other (alone (pattern ps))
joined (or left right) other = or other (or left right)

-- items joined to a tree one after the other, each to the right of those before it
abbrev pub joined_from : Forbidden → List Item → Forbidden
joined_from so_far [] = so_far
joined_from so_far (item ∷ its) = joined_from (or so_far (alone item)) its

-- the tree of these items, made from the left
abbrev pub tree_of : List Item → Forbidden
tree_of [] = nothing
tree_of (item ∷ its) = joined_from (alone item) its

abbrev pub items : ForbiddenValues → List Item
items v = items_of (tree v)

abbrev pub head : ForbiddenValues → Option (List Pair)
head v = head_of (tree v)

-- the patterns that the items offer, in order
abbrev pub offered : List Item → List (List Pair)
offered its = map offer its

-- the pattern of a search's answer
abbrev pub single : SingleForbiddenValue → Option (List Pair)
single single_variant.Saturator = None
single single_variant.End = None
single (single_variant.Array p) = Some p

-- the first pattern that the values offer in bytes that are wholly in the set
abbrev pub first_lying : List Pair → Forbidden → Option (List Pair)
first_lying free t = find (lies_free free) (offered (items_of t))
