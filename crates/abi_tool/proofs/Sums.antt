-- Sums that grow by one number.
use Rattle.std.proofs.Common.{◌≡◌, ℕ, ◌+◌, map, refl, arith}
use Rattle.std.specs.List.{range_with_len, sum}
use Rattle.std.proofs.lemmas.List.FromFn.{sum_by-map-range_with_len_more}

pub one_more : (f : ℕ → ℕ) (total n i : ℕ) → total ≡ sum (map f (range_with_len 0 i)) → n ≡ f i
    → total + n ≡ sum (map f (range_with_len 0 (i + 1)))
one_more f total n i so_far is = rw (so_far, is, sum_by-map-range_with_len_more (λ x. x) f 0 i i (omega arith)) refl
