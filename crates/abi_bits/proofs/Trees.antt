-- What trees of forbidden values have for items and for a head.
use Rattle.std.proofs.Common.{◌≡◌, ℕ, List, [], ◌∷◌, ◌++◌, map, rules, refl, ap, ◌∙◌, append_assoc}
use Rattle.std.specs.Prelude.{Some}
use Rattle.std.specs.Option.{option_map}
use Rattle.std.proofs.lemmas.List.{map-append}
use Rattle.abi_bits.specs.Pairs.{moved_pairs}
use Rattle.abi_bits.specs.Forbidden.{Item, pattern, range, Forbidden, nothing, alone, or, items_of, head_of, moved_item, moved_tree, joined_from, tree_of, offer}

items_joined : (so_far : Forbidden) (its : List Item) → items_of (joined_from so_far its) ≡ items_of so_far ++ its
items_joined so_far [] = search rules
items_joined so_far (it ∷ its) = items_joined (or so_far (alone it)) its ∙ append_assoc (items_of so_far) (it ∷ []) its

-- a tree made of items has these items
pub items_made : (its : List Item) → items_of (tree_of its) ≡ its
items_made [] = refl
items_made (it ∷ its) = items_joined (alone it) its

head_joined : (so_far : Forbidden) (its : List Item) → head_of (joined_from so_far its) ≡ head_of so_far
head_joined so_far [] = refl
head_joined so_far (it ∷ its) = head_joined (or so_far (alone it)) its

-- and offers at its head what the first of them offers
pub head_made : (it : Item) (its : List Item) → head_of (tree_of (it ∷ its)) ≡ Some (offer it)
head_made it its = head_joined (alone it) its

pub items_moved : (by : ℕ) (t : Forbidden) → items_of (moved_tree by t) ≡ map (moved_item by) (items_of t)
items_moved by nothing = refl
items_moved by (alone it) = refl
items_moved by (or left right) = rw (items_moved by left, items_moved by right, map-append) refl

pub offer_moved : (by : ℕ) (it : Item) → offer (moved_item by it) ≡ moved_pairs by (offer it)
offer_moved by (pattern ps) = refl
offer_moved by (range at least greatest) = refl

pub head_moved : (by : ℕ) (t : Forbidden) → head_of (moved_tree by t) ≡ option_map (moved_pairs by) (head_of t)
head_moved by nothing = refl
head_moved by (alone it) = ap Some (offer_moved by it)
head_moved by (or left right) = head_moved by left
