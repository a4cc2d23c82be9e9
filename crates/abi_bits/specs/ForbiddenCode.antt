-- A code for trees of forbidden values, by which proofs tell them apart: the leaves in order, and a mark at each join.
use Rattle.std.specs.Prelude.{◌≡◌, ℕ, List, [], ◌∷◌, Option, Some, None, ◌⊎◌}
use Rattle.std.specs.Coded.{Coded, code_by, coded_ℕ, coded_list, coded×, coded⊎, coded_option}
use Rattle.std.proofs.Common.{refl, ◌∙◌, inl, inr}
use Rattle.abi_bits.specs.Pairs.{Pair}
use Rattle.abi_bits.specs.Forbidden.{Item, pattern, range, Forbidden, nothing, alone, or}

abbrev Parts : Type 0
Parts = List Pair ⊎ (ℕ × (ℕ × ℕ))

-- two trees are joined, or a leaf stands here: one that forbids nothing, or an item
abbrev Mark : Type 0
Mark = Option (Option Parts)

abbrev parts : Item → Parts
parts (pattern ps) = inl ps
parts (range at least greatest) = inr (at, (least, greatest))

abbrev item : Parts → Item
item (inl ps) = pattern ps
item (inr q) = range q.0 q.1.0 q.1.1

-- the marks of the tree before these
abbrev marks : Forbidden → List Mark → List Mark
marks nothing more = Some None ∷ more
marks (alone it) more = Some (Some (parts it)) ∷ more
marks (or left right) more = marks left (marks right (None ∷ more))

-- the trees that stand when all marks are read
abbrev trees : List Mark → List Forbidden → List Forbidden
trees [] stand = stand
trees (Some None ∷ more) stand = trees more (nothing ∷ stand)
trees (Some (Some q) ∷ more) stand = trees more (alone (item q) ∷ stand)
trees (None ∷ more) [] = []
trees (None ∷ more) (right ∷ []) = []
trees (None ∷ more) (right ∷ (left ∷ stand)) = trees more (or left right ∷ stand)

abbrev first : List Forbidden → Forbidden
first [] = nothing
first (t ∷ ts) = t

abbrev all_marks : Forbidden → List Mark
all_marks t = marks t []

abbrev tree_from : List Mark → Forbidden
tree_from ms = first (trees ms [])

from_marks : (t : Forbidden) (more : List Mark) (stand : List Forbidden)
    → trees (marks t more) stand ≡ trees more (t ∷ stand)
from_marks nothing more stand = refl
from_marks (alone (pattern ps)) more stand = refl
from_marks (alone (range at least greatest)) more stand = refl
from_marks (or left right) more stand =
    from_marks left (marks right (None ∷ more)) stand
    ∙ from_marks right (None ∷ more) (left ∷ stand)

pub tree_again : (t : Forbidden) → tree_from (all_marks t) ≡ t
tree_again t = rw (from_marks t [] []) refl

abbrev coded_parts : Coded Parts
coded_parts = coded⊎ (coded_list (coded× coded_ℕ coded_ℕ)) (coded× coded_ℕ (coded× coded_ℕ coded_ℕ))

abbrev pub forbidden_code : Coded Forbidden
forbidden_code =
    code_by (List Mark) (coded_list (coded_option (coded_option coded_parts))) all_marks tree_from
    tree_again
