-- Bytes in a row, widened, and joined with others.
use Rattle.std.proofs.Common.{◌≡◌, ℕ, ◌+◌, ◌-◌, ◌<◌, ◌≤◌, Bool, List, cond, eqb, leb, bit_or, get_or, length, set, take, arith}
use Rattle.std.proofs.lemmas.Bool.Decides.{nat_tests}
use Rattle.std.proofs.lemmas.List.{get_or_past, get_or-set_same, get_or-set_other, get_or-take, length-take, take_all}
use Rattle.abi_bits.proofs.Masks.{or_zero}

-- bytes moved to the end of a longer row of zeros
pub widened : (front len k : ℕ) (bs wide new : List ℕ) → front + length bs ≤ len → length new ≡ len
    → ((k : ℕ) → k < length bs → get_or wide k 0 ≡ get_or bs k 0) → ((k : ℕ) → length bs ≤ k → k < len → get_or wide k 0 ≡ 0)
    → ((k : ℕ) → k < front → get_or new k 0 ≡ get_or wide (len - front + k) 0) → ((k : ℕ) → front ≤ k → k < len → get_or new k 0 ≡ get_or wide (k - front) 0)
    → get_or new k 0 ≡ cond (leb front k) (get_or bs (k - front) 0) 0
widened front len k bs wide new room long same zero turned back = grind (arith, nat_tests, get_or_past)

-- what the first bytes of another row, from an index on, add to a byte
abbrev pub added : ℕ → ℕ → List ℕ → ℕ → ℕ
added from i other k = cond (leb from k) (get_or (take i other) (k - from) 0) 0

pub none_added : (b : Bool) (m : ℕ) → m ≡ bit_or m (cond b 0 0)
none_added b m = grind (arith, nat_tests, or_zero)

take_more : (i j : ℕ) (xs : List ℕ) → get_or (take (i + 1) xs) j 0 ≡ cond (eqb j i) (get_or xs i 0) (get_or (take i xs) j 0)
take_more i j xs = grind (arith, nat_tests, get_or_past, get_or-take, length-take)

pub one_more_added : (from i k : ℕ) (old bytes other new : List ℕ) → from + i < length bytes → new ≡ set bytes (from + i) (bit_or (get_or bytes (from + i) 0) (get_or other i 0))
    → ((k : ℕ) → get_or bytes k 0 ≡ bit_or (get_or old k 0) (added from i other k)) → get_or new k 0 ≡ bit_or (get_or old k 0) (added from (i + 1) other k)
one_more_added from i k old bytes other new lt q so_far = rw (q, set_at k, take_more i (k - from) other) (joined (so_far k) (so_far (from + i)))
  where
    set_at : (k : ℕ) → get_or (set bytes (from + i) (bit_or (get_or bytes (from + i) 0) (get_or other i 0))) k 0 ≡ cond (eqb k (from + i)) (bit_or (get_or bytes (from + i) 0) (get_or other i 0)) (get_or bytes k 0)
    set_at k = grind (arith, nat_tests, get_or-set_same, get_or-set_other)

    joined : get_or bytes k 0 ≡ bit_or (get_or old k 0) (added from i other k) → get_or bytes (from + i) 0 ≡ bit_or (get_or old (from + i) 0) (added from i other (from + i))
        → cond (eqb k (from + i)) (bit_or (get_or bytes (from + i) 0) (get_or other i 0)) (get_or bytes k 0)
        ≡ bit_or (get_or old k 0) (cond (leb from k) (cond (eqb (k - from) i) (get_or other i 0) (get_or (take i other) (k - from) 0)) 0)
    joined here there = grind (arith, nat_tests, or_zero, get_or_past, length-take)

pub all_added : (from i k : ℕ) (old bytes other : List ℕ) → length other ≤ i → get_or bytes k 0 ≡ bit_or (get_or old k 0) (added from i other k)
    → get_or bytes k 0 ≡ bit_or (get_or old k 0) (cond (leb from k) (get_or other (k - from) 0) 0)
all_added from i k old bytes other le q = rw (take_all i other le) at q
