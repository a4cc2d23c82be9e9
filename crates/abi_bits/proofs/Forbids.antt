-- What two sides of forbidden values tell of the whole.
use Rattle.std.proofs.Common.{◌≡◌, Bool, true, List, ◌++◌, rules, refl, ap, ◌∙◌, append_assoc, Some, None, ◌+◌, ◌≤◌, ltb, eqb, arith, ℕ, [], ◌∷◌, map}
use Rattle.std.specs.List.{list_all, find}
use Rattle.std.specs.Option.{option_or}
use Rattle.std.specs.declared.alloc.Global.{Global}
use Rattle.std.specs.declared.boxed.Box.{Box}
use Rattle.std.proofs.lemmas.Bool.{and_parts, and_from, ltb-true, lt-ltb}
use Rattle.std.proofs.lemmas.List.{map-append}
use Rattle.std.proofs.lemmas.List.Folds.{list_all-append, list_all-map, find-append}
use Rattle.abi_bits.specs.Pairs.{Pair, are_below}
use Rattle.abi_bits.specs.Mask.{mask_at}
use Rattle.abi_bits.proofs.Sets.{moved_below}
use Rattle.abi_bits.specs.Forbidden.{Item, pattern, range, or, tree, items_of, is_solid_byte, is_solid_item, moved_item, items, single, offer, offered, is_item_below, is_ranged, are_items_below, AreSound, ends_in_pattern}
use Rattle.abi_bits.specs.Single.{answer}
use Rattle.abi_bits.specs.declared.single_forbidden_value.SingleForbiddenValue.{SingleForbiddenValue}
use Rattle.abi_bits.specs.declared.single_forbidden_value.SingleForbiddenValue.TheVariants.{Saturator, End, Array}
use Rattle.abi_bits.specs.declared.forbidden_values.ForbiddenValues.{ForbiddenValues, Or, the_lemmas}

tree_or : (left right : Box ForbiddenValues Global) → tree (Or left right) ≡ or (tree left.value) (tree right.value)
tree_or left right = search (rules, the_lemmas)

pub items_or : (left right : Box ForbiddenValues Global) → items (Or left right) ≡ items left.value ++ items right.value
items_or left right = ap items_of (tree_or left right)

all_left : (p : Item → Bool) (xs ys : List Item) → list_all p (xs ++ ys) ≡ true → list_all p xs ≡ true
all_left p xs ys h = (and_parts (list_all p xs) (list_all p ys) (rw list_all-append at h)).0

all_right : (p : Item → Bool) (xs ys : List Item) → list_all p (xs ++ ys) ≡ true → list_all p ys ≡ true
all_right p xs ys h = (and_parts (list_all p xs) (list_all p ys) (rw list_all-append at h)).1

pub sound_left : (xs ys : List Item) → AreSound (xs ++ ys) → AreSound xs
sound_left xs ys h =
    let p = and_parts (are_items_below 1048576 (xs ++ ys)) (list_all is_ranged (xs ++ ys)) h in
    and_from (are_items_below 1048576 xs) (list_all is_ranged xs) (all_left (is_item_below 1048576) xs ys p.0) (all_left is_ranged xs ys p.1)

pub sound_right : (xs ys : List Item) → AreSound (xs ++ ys) → AreSound ys
sound_right xs ys h =
    let p = and_parts (are_items_below 1048576 (xs ++ ys)) (list_all is_ranged (xs ++ ys)) h in
    and_from (are_items_below 1048576 ys) (list_all is_ranged ys) (all_right (is_item_below 1048576) xs ys p.0) (all_right is_ranged xs ys p.1)

pub offered_or : (xs ys : List Item) (start middle end : List (List Pair)) → middle ≡ start ++ offered xs → end ≡ middle ++ offered ys → end ≡ start ++ offered (xs ++ ys)
offered_or xs ys start middle end m e = e ∙ ap (λ (x : List (List Pair)). x ++ offered ys) m ∙ append_assoc start (offered xs) (offered ys) ∙ ap (λ (x : List (List Pair)). start ++ x) (rw map-append refl)

pub left_sound : (self : ForbiddenValues) (left right : Box ForbiddenValues Global) → self ≡ Or left right → AreSound (items self) → AreSound (items left.value)
left_sound self left right is h = sound_left (items left.value) (items right.value) (rw (is, items_or) at h)

pub right_sound : (self : ForbiddenValues) (left right : Box ForbiddenValues Global) → self ≡ Or left right → AreSound (items self) → AreSound (items right.value)
right_sound self left right is h = sound_right (items left.value) (items right.value) (rw (is, items_or) at h)

pub or_offered : (self : ForbiddenValues) (left right : Box ForbiddenValues Global) (start middle end : List (List Pair)) → self ≡ Or left right
    → middle ≡ start ++ offered (items left.value) → end ≡ middle ++ offered (items right.value) → end ≡ start ++ offered (items self)
or_offered self left right start middle end is m e = rw (is, items_or) (offered_or (items left.value) (items right.value) start middle end m e)

-- what holds of every pattern that either side offers holds of every one of the whole
pub or_all : (p : List Pair → Bool) (self : ForbiddenValues) (left right : Box ForbiddenValues Global) → self ≡ Or left right
    → list_all p (offered (items left.value)) ≡ true → list_all p (offered (items right.value)) ≡ true → list_all p (offered (items self)) ≡ true
or_all p self left right is a b =
    rw (is, items_or, map-append, list_all-append) (and_from (list_all p (offered (items left.value))) (list_all p (offered (items right.value))) a b)

ends_or : (left right : Box ForbiddenValues Global) → ends_in_pattern (tree (Or left right)) ≡ ends_in_pattern (tree right.value)
ends_or left right = ap ends_in_pattern (tree_or left right)

find_or : (test : List Pair → Bool) (self : ForbiddenValues) (left right : Box ForbiddenValues Global) → self ≡ Or left right
    → find test (offered (items self)) ≡ option_or (find test (offered (items left.value))) (find test (offered (items right.value)))
find_or test self left right is =
    rw (is, items_or) (ap (find test) (map-append offer (items left.value) (items right.value)) ∙ find-append test (offered (items left.value)) (offered (items right.value)))

-- what the left side offers first is what the whole offers first
pub left_found : (test : List Pair → Bool) (self : ForbiddenValues) (left right : Box ForbiddenValues Global) (p : List Pair) → self ≡ Or left right
    → Some p ≡ find test (offered (items left.value)) → Some p ≡ find test (offered (items self))
left_found test self left right p is found = rw (find_or test self left right is, ← found) refl

-- where the left side offers nothing, the right side's first is the first of the whole
pub right_found : (test : List Pair → Bool) (self : ForbiddenValues) (left right : Box ForbiddenValues Global) → self ≡ Or left right
    → None ≡ find test (offered (items left.value)) → find test (offered (items right.value)) ≡ find test (offered (items self))
right_found test self left right is none = rw (find_or test self left right is, ← none) refl

pub right_answer : (test : List Pair → Bool) (self : ForbiddenValues) (left right : Box ForbiddenValues Global) (found : SingleForbiddenValue) → self ≡ Or left right
    → None ≡ find test (offered (items left.value)) → found ≡ answer (find test (offered (items right.value))) (ends_in_pattern (tree right.value))
    → found ≡ answer (find test (offered (items self))) (ends_in_pattern (tree self))
right_answer test self left right found is none same =
    rw (← right_found test self left right is none) (same ∙ rw (is, ends_or) refl)

pub not_found : (found : SingleForbiddenValue) → ((p : List Pair) → found ≡ Array p → ⊥) → None ≡ single found
not_found Saturator ne = refl
not_found End ne = refl
not_found (Array p) ne = absurd (ne p refl)

all_from : (p q : Item → Bool) → ((x : Item) → p x ≡ true → q x ≡ true) → (xs : List Item) → list_all p xs ≡ true → list_all q xs ≡ true
all_from p q each [] h = refl
all_from p q each (x ∷ xs) h = let a = and_parts (p x) (list_all p xs) h in and_from (q x) (list_all q xs) (each x a.0) (all_from p q each xs a.1)

solid_pairs : (size : ℕ) (free ps : List Pair) → size ≤ 1048576 → list_all (λ p. is_solid_byte size free p.0) ps ≡ true → are_below 1048576 ps ≡ true
solid_pairs size free [] le h = refl
solid_pairs size free (p ∷ ps) le h =
    let a = and_parts (is_solid_byte size free p.0) (list_all (λ p. is_solid_byte size free p.0) ps) h in
    let b = and_parts (ltb p.0 size) (eqb (mask_at free p.0) 0) a.0 in
    and_from (ltb p.0 1048576) (are_below 1048576 ps) (lt-ltb p.0 1048576 (omega (arith, ltb-true p.0 size b.0, le))) (solid_pairs size free ps le a.1)

solid_below : (size : ℕ) (free : List Pair) → size ≤ 1048576 → (x : Item) → is_solid_item size free x ≡ true → is_item_below 1048576 x ≡ true
solid_below size free le (pattern ps) h = solid_pairs size free ps le h
solid_below size free le (range at least greatest) h =
    let a = and_parts (is_solid_byte size free at) (ltb least greatest) h in
    let b = and_parts (ltb at size) (eqb (mask_at free at) 0) a.0 in
    lt-ltb at 1048576 (omega (arith, ltb-true at size b.0, le))

solid_ranged : (size : ℕ) (free : List Pair) (x : Item) → is_solid_item size free x ≡ true → is_ranged x ≡ true
solid_ranged size free (pattern ps) h = refl
solid_ranged size free (range at least greatest) h = (and_parts (is_solid_byte size free at) (ltb least greatest) h).1

-- forbidden values in bytes of a layout without a free bit are sound
pub solid_sound : (size : ℕ) (free : List Pair) (xs : List Item) → size ≤ 1048576 → list_all (is_solid_item size free) xs ≡ true → AreSound xs
solid_sound size free xs le h =
    and_from (are_items_below 1048576 xs) (list_all is_ranged xs)
    (all_from (is_solid_item size free) (is_item_below 1048576) (solid_below size free le) xs h)
    (all_from (is_solid_item size free) is_ranged (solid_ranged size free) xs h)

moved_item_below : (by n to : ℕ) → n + by ≤ to → (x : Item) → is_item_below n x ≡ true → is_item_below to (moved_item by x) ≡ true
moved_item_below by n to le (pattern ps) h = moved_below by n to ps h le
moved_item_below by n to le (range at least greatest) h = lt-ltb (at + by) to (omega (arith, ltb-true at n h, le))

-- items below n lie below n + by once they are moved
pub moved_items_below : (by n to : ℕ) (xs : List Item) → are_items_below n xs ≡ true → n + by ≤ to → are_items_below to (map (moved_item by) xs) ≡ true
moved_items_below by n to xs h le =
    rw (list_all-map (is_item_below to) (moved_item by) xs) (all_from (is_item_below n) (λ x. is_item_below to (moved_item by x)) (moved_item_below by n to le) xs h)
