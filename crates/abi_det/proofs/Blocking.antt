-- Blocking bytes, pattern by pattern.
use Rattle.std.proofs.Common.{◌≡◌, ℕ, Bool, true, false, ◌&&◌, cond, List, [], ◌∷◌, ◌++◌, Option, Some, None, is_none, map, length, eqb, refl, sym, ap, ◌∙◌, arith}
use Rattle.std.specs.Option.{option_and_then}
use Rattle.std.specs.declared.alloc.Global.{Global}
use Rattle.std.specs.declared.boxed.Box.{Box}
use Rattle.std.proofs.lemmas.Bool.{ne_eqb}
use Rattle.std.proofs.lemmas.List.{map-append}
use Rattle.abi_bits.specs.Pairs.{Pair, moved_pairs}
use Rattle.abi_bits.specs.Mask.{entries_below, least_bit}
use Rattle.abi_bits.specs.Forbidden.{items, offered}
use Rattle.abi_bits.specs.declared.forbidden_values.ForbiddenValues.{ForbiddenValues, Or}
use Rattle.abi_bits.proofs.Forbids.{items_or}
use Rattle.abi_det.specs.Written.{is_blocking, are_blocking, is_none_named}
use Rattle.abi_det.specs.Search.{IsNextBelow, after_blocking}
use Rattle.abi_det.proofs.Entries.{least_of_first, least_of_none}

after_if : (b : Bool) (free : ℕ → ℕ) (xs ys : List (List Pair)) (ats : List ℕ)
    → (after_blocking free (xs ++ ys) ats ≡ option_and_then (after_blocking free ys) (after_blocking free xs ats))
    → cond b (after_blocking free (xs ++ ys) ats) None ≡ option_and_then (after_blocking free ys) (cond b (after_blocking free xs ats) None)
after_if true free xs ys ats h = h
after_if false free xs ys ats h = refl

-- first one list of patterns, then the other
after_both : (free : ℕ → ℕ) (xs ys : List (List Pair)) (ats : List ℕ)
    → after_blocking free (xs ++ ys) ats ≡ option_and_then (after_blocking free ys) (after_blocking free xs ats)
after_both free [] ys ats = refl
after_both free (x ∷ xs) ys [] = refl
after_both free (x ∷ xs) ys (at ∷ ats) = after_if (is_blocking free x at) free xs ys ats (after_both free xs ys ats)

after_or : (free : ℕ → ℕ) (by : ℕ) (left right : Box ForbiddenValues Global) (ats : List ℕ)
    → after_blocking free (map (moved_pairs by) (offered (items (Or left right)))) ats
    ≡ option_and_then (after_blocking free (map (moved_pairs by) (offered (items right.value)))) (after_blocking free (map (moved_pairs by) (offered (items left.value))) ats)
after_or free by left right ats =
    rw (items_or left right) (simp map-append (after_both free (map (moved_pairs by) (offered (items left.value))) (map (moved_pairs by) (offered (items right.value))) ats))

-- nothing is left where each pattern has its byte
abbrev pub is_all : Option (List ℕ) → Bool
is_all None = false
is_all (Some []) = true
is_all (Some (at ∷ ats)) = false

all_if : (b : Bool) (free : ℕ → ℕ) (pss : List (List Pair)) (ats : List ℕ) → are_blocking free pss ats ≡ is_all (after_blocking free pss ats)
    → (b && are_blocking free pss ats) ≡ is_all (cond b (after_blocking free pss ats) None)
all_if true free pss ats h = h
all_if false free pss ats h = refl

blocking_all : (free : ℕ → ℕ) (pss : List (List Pair)) (ats : List ℕ) → are_blocking free pss ats ≡ is_all (after_blocking free pss ats)
blocking_all free [] [] = refl
blocking_all free [] (at ∷ ats) = refl
blocking_all free (ps ∷ pss) [] = refl
blocking_all free (ps ∷ pss) (at ∷ ats) = all_if (is_blocking free ps at) free pss ats (blocking_all free pss ats)

empty_all : (rest : List ℕ) → eqb (length rest) 0 ≡ is_all (Some rest)
empty_all [] = refl
empty_all (at ∷ ats) = ne_eqb (length (at ∷ ats)) 0 (λ q. absurd (omega (arith, q)))

pub all_blocking : (free : ℕ → ℕ) (pss : List (List Pair)) (ats rest : List ℕ) → Some rest ≡ after_blocking free pss ats → eqb (length rest) 0 ≡ are_blocking free pss ats
all_blocking free pss ats rest e = empty_all rest ∙ ap is_all e ∙ sym (blocking_all free pss ats)

pub not_blocking : (free : ℕ → ℕ) (pss : List (List Pair)) (ats : List ℕ) → None ≡ after_blocking free pss ats → false ≡ are_blocking free pss ats
not_blocking free pss ats e = ap is_all e ∙ sym (blocking_all free pss ats)

pub none_named : (ats : List ℕ) → eqb (length ats) 0 ≡ is_none_named ats
none_named [] = refl
none_named (at ∷ ats) = ne_eqb (length (at ∷ ats)) 0 (λ q. absurd (omega (arith, q)))

-- a bit is free in both exactly where some byte has one
pub shared_if : (bits : ℕ → ℕ) (n : ℕ) (found : Option Pair) → IsNextBelow bits n 0 found → is_none found ≡ is_none (least_bit (entries_below bits n))
shared_if bits n None next = rw (least_of_none bits n next) refl
shared_if bits n (Some e) next = rw (least_of_first bits n e.0 e.1 next) refl

module _ (free : ℕ → ℕ) (by : ℕ) (values : ForbiddenValues) (left right : Box ForbiddenValues Global) (ats : List ℕ) where
  pub rest_of_both : (rest : List ℕ) (result : Option (List ℕ)) → values ≡ Or left right
      → Some rest ≡ after_blocking free (map (moved_pairs by) (offered (items left.value))) ats
      → result ≡ after_blocking free (map (moved_pairs by) (offered (items right.value))) rest
      → result ≡ after_blocking free (map (moved_pairs by) (offered (items values))) ats
  rest_of_both rest result is first second = rw (is, after_or free by left right ats, ← first) second

  pub none_of_both : values ≡ Or left right → None ≡ after_blocking free (map (moved_pairs by) (offered (items left.value))) ats
      → None ≡ after_blocking free (map (moved_pairs by) (offered (items values))) ats
  none_of_both is first = rw (is, after_or free by left right ats, ← first) refl
