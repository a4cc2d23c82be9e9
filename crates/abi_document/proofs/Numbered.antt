-- Lists of one item for each number.
use Rattle.std.proofs.Common.{◌≡◌, ℕ, ◌+◌, List, [], ◌∷◌, ◌++◌, map, sym, ◌∙◌, arith}
use Rattle.std.specs.List.{range_with_len}
use Rattle.std.proofs.lemmas.List.{map-append}
use Rattle.std.proofs.lemmas.List.FromFn.{map-range_with_len_more}

pub one_more : {A R : Type 0} (view : R → A) (f : ℕ → A) (xs : List R) (x : R) (i : ℕ) → map view xs ≡ map f (range_with_len 0 i) → view x ≡ f i
    → map view (xs ++ x ∷ []) ≡ map f (range_with_len 0 (i + 1))
one_more view f xs x i so_far is = map-append view xs (x ∷ []) ∙ rw (so_far, is) (sym (map-range_with_len_more f 0 i i (omega arith)))
