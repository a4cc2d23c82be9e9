-- Answers of a search among forbidden values.
use Rattle.std.specs.Prelude.{List, [], ◌∷◌, Bool, true, false, Option, Some, None}
use Rattle.abi_bits.specs.Pairs.{Pair}
use Rattle.abi_bits.specs.Forbidden.{Forbidden, first_lying, ends_in_pattern}
use Rattle.abi_bits.specs.declared.single_forbidden_value.SingleForbiddenValue.{SingleForbiddenValue}
use Rattle.abi_bits.specs.declared.single_forbidden_value.SingleForbiddenValue.TheVariants.{Saturator, End, Array}

-- the answer that found this pattern, or that found none; `taken` where a pattern was there that could not be taken
abbrev pub answer : Option (List Pair) → Bool → SingleForbiddenValue
answer (Some p) taken = Array p
answer None true = Saturator
answer None false = End

-- what a search for a pattern in wholly free bytes answers
abbrev pub selected : List Pair → Forbidden → SingleForbiddenValue
selected free t = answer (first_lying free t) (ends_in_pattern t)

-- the pairs of the found pattern
abbrev pub pairs_of : SingleForbiddenValue → List Pair
pairs_of Saturator = []
pairs_of End = []
pairs_of (Array p) = p

-- one pair more in front, unless a pattern could not be taken
abbrev pub pushed : Pair → SingleForbiddenValue → SingleForbiddenValue
pushed pair Saturator = Saturator
pushed pair End = Array (pair ∷ [])
pushed pair (Array p) = Array (pair ∷ p)

-- the first that found a pattern
abbrev pub either : SingleForbiddenValue → SingleForbiddenValue → SingleForbiddenValue
either Saturator b = b
either End b = b
either (Array p) b = Array p

-- the second, unless the first could not take its pattern
abbrev pub both : SingleForbiddenValue → SingleForbiddenValue → SingleForbiddenValue
both Saturator b = Saturator
both End b = b
both (Array p) b = b

-- a pattern that could not be taken counts as none
abbrev pub resolved : SingleForbiddenValue → SingleForbiddenValue
resolved Saturator = End
resolved End = End
resolved (Array p) = Array p
