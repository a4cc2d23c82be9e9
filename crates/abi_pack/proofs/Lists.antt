-- Bytes of zeros, of a part, and of what follows.
use Rattle.std.proofs.Common.{◌≡◌, ℕ, ◌+◌, ◌-◌, ◌<◌, ◌≤◌, ◌⊎◌, inl, inr, List, ◌++◌, length, get_or, take, drop, ap, subst, ◌∙◌, arith, length-append}
use Rattle.std.proofs.lemmas.Bool.{cases_lt}
use Rattle.std.proofs.lemmas.List.{length-replicate, get_or-replicate, get_or-append_right, get_or_append_left}
use Rattle.std.proofs.Math.Seq.{take-append_seam}
use Rattle.std.proofs.Math.ListN.{get_or-eq_default}
use Rattle.abi_pack.specs.Packed.{zeros}

pub zeros_length : (n : ℕ) → length (zeros n) ≡ n
zeros_length n = length-replicate n 0

none_at : (n i : ℕ) → (i < n) ⊎ (n ≤ i) → get_or (zeros n) i 0 ≡ 0
none_at n i (inl h) = get_or-replicate n i 0 0 h
none_at n i (inr h) = let past : length (zeros n) ≤ i = rw (zeros_length n) h in get_or-eq_default (zeros n) 0 past

pub zeros_at : (n i : ℕ) → get_or (zeros n) i 0 ≡ 0
zeros_at n i = none_at n i (cases_lt i n)

pub before_part : (n : ℕ) (xs : List ℕ) (i : ℕ) → i < n → get_or (zeros n ++ xs) i 0 ≡ 0
before_part n xs i h =
    let inside : i < length (zeros n) = rw (zeros_length n) h in get_or_append_left (zeros n) xs 0 i inside ∙ zeros_at n i

pub in_part : (n m : ℕ) (b c : List ℕ) (i : ℕ) → length b ≡ m → n ≤ i → i < n + m → get_or (zeros n ++ (b ++ c)) i 0 ≡ get_or b (i - n) 0
in_part n m b c i long g l =
    let inside : i - n < length b = omega arith in
    get_or-append_right (zeros n) (b ++ c) n i 0 (zeros_length n) g ∙ get_or_append_left b c 0 (i - n) inside

pub behind_part : (n m : ℕ) (b c : List ℕ) (i : ℕ) → length b ≡ m → n + m ≤ i → get_or (zeros n ++ (b ++ c)) i 0 ≡ get_or c (i - (n + m)) 0
behind_part n m b c i long h =
    let there : i - n - m ≡ i - (n + m) = omega arith in
    get_or-append_right (zeros n) (b ++ c) n i 0 (zeros_length n) (omega arith) ∙ get_or-append_right b c m (i - n) 0 long (omega arith) ∙ ap (λ j. get_or c j 0) there

pub parts_length : (n m k : ℕ) (b c : List ℕ) → length b ≡ m → length c ≡ k → length (zeros n ++ (b ++ c)) ≡ n + m + k
parts_length n m k b c lb lc = let gap : length (zeros n) ≡ n = zeros_length n in simp length-append (omega arith)

-- others written over the first of a list
pub written_back : (new old : List ℕ) (n : ℕ) → length new ≡ n → take n (new ++ drop (length new) old) ≡ new
written_back new old n e = subst (λ m. take m (new ++ drop (length new) old) ≡ new) e (take-append_seam new (drop (length new) old))
