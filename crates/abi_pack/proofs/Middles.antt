-- Bytes put in place of as many in the middle of others.
use Rattle.std.proofs.Common.{◌≡◌, ℕ, ◌+◌, ◌-◌, ◌<◌, ◌≤◌, ◌⊎◌, inl, inr, List, ◌++◌, length, get_or, take, drop, ◌∙◌, ap, arith, length-append, lit<}
use Rattle.std.proofs.lemmas.Bool.{cases_lt}
use Rattle.std.proofs.lemmas.List.{length-take-le, length-drop, get_or-take, get_or-drop, get_or-append_right, get_or_append_left}
use Rattle.std.proofs.Math.ListN.{get_or-eq_default}
use Rattle.abi_pack.proofs.Numbers.{AllBytes}

-- ---- the bytes that are there

pub cut_length : (xs : List ℕ) (o n : ℕ) → o + n ≤ length xs → length (take n (drop o xs)) ≡ n
cut_length xs o n h = let rest : length (drop o xs) ≡ length xs - o = length-drop o xs in length-take-le n (drop o xs) (omega (arith, rest, h))

pub cut_at : (xs : List ℕ) (o n i : ℕ) → i < n → get_or (take n (drop o xs)) i 0 ≡ get_or xs (o + i) 0
cut_at xs o n i h = get_or-take n (drop o xs) i 0 h ∙ get_or-drop o xs i 0

pub cut_small : (xs : List ℕ) (o n : ℕ) → o + n ≤ length xs → AllBytes xs → AllBytes (take n (drop o xs))
cut_small xs o n le small i = pick (cases_lt i n)
  where
    pick : (i < n) ⊎ (n ≤ i) → get_or (take n (drop o xs)) i 0 < 256
    pick (inl h) = rw (cut_at xs o n i h) (small (o + i))
    pick (inr h) =
        let past : length (take n (drop o xs)) ≤ i = rw (cut_length xs o n le) h in rw (get_or-eq_default (take n (drop o xs)) 0 past) (lit< tt)

-- ---- others in their place

abbrev pub middle : List ℕ → ℕ → ℕ → List ℕ → List ℕ
middle xs o n ys = take o xs ++ (ys ++ drop n (drop o xs))

module _ (xs ys : List ℕ) (o n : ℕ) (le : o + n ≤ length xs) (long : length ys ≡ n) where
  before_length : length (take o xs) ≡ o
  before_length = length-take-le o xs (omega arith)

  pub middle_length : length (middle xs o n ys) ≡ length xs
  middle_length =
      let rest : length (drop n (drop o xs)) ≡ length xs - o - n = length-drop n (drop o xs) ∙ ap (λ m. m - n) (length-drop o xs) in
      let front = before_length in simp length-append (omega (arith, front, rest, long, le))

  pub middle_here : (i : ℕ) → o ≤ i → i < o + n → get_or (middle xs o n ys) i 0 ≡ get_or ys (i - o) 0
  middle_here i low high =
      get_or-append_right (take o xs) (ys ++ drop n (drop o xs)) o i 0 before_length low
      ∙ get_or_append_left ys (drop n (drop o xs)) 0 (i - o) (omega (arith, long))

  pub middle_else : (i : ℕ) → (i < o) ⊎ (o + n ≤ i) → get_or (middle xs o n ys) i 0 ≡ get_or xs i 0
  middle_else i (inl h) =
      let front = before_length in
      get_or_append_left (take o xs) (ys ++ drop n (drop o xs)) 0 i (omega (arith, front)) ∙ get_or-take o xs i 0 h
  middle_else i (inr h) =
      let there : o + (n + (i - o - n)) ≡ i = omega arith in
      get_or-append_right (take o xs) (ys ++ drop n (drop o xs)) o i 0 before_length (omega arith)
      ∙ get_or-append_right ys (drop n (drop o xs)) n (i - o) 0 long (omega arith)
      ∙ get_or-drop n (drop o xs) (i - o - n) 0 ∙ get_or-drop o xs (n + (i - o - n)) 0 ∙ ap (λ j. get_or xs j 0) there
