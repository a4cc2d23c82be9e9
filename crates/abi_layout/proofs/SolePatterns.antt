-- Lists of forbidden items that are one pattern alone.
use Rattle.std.proofs.Common.{◌≡◌, true, false, List, [], ◌∷◌, ◌++◌, refl}
use Rattle.abi_bits.specs.Forbidden.{Item, pattern, range}
use Rattle.abi_layout.specs.CoreSums.{is_void, is_sole_pattern}

pub void_is : (its : List Item) → is_void its ≡ true → its ≡ []
void_is [] e = refl
void_is (it ∷ its) e = absurd (cc)

-- two lists of some items each are no one pattern
pub two_are_not_sole : (its others : List Item) → is_void its ≡ false → is_void others ≡ false → is_sole_pattern (its ++ others) ≡ false
two_are_not_sole [] others some more = absurd (cc)
two_are_not_sole (it ∷ its) [] some more = absurd (cc)
two_are_not_sole (pattern ps ∷ []) (other ∷ others) some more = refl
two_are_not_sole (pattern ps ∷ next ∷ its) (other ∷ others) some more = refl
two_are_not_sole (range at least greatest ∷ its) (other ∷ others) some more = refl
