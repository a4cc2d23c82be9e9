-- The free bits of frames, byte by byte.
use Rattle.std.proofs.Common.{◌≡◌, ℕ, zero, suc, ◌+◌, ◌-◌, ◌<◌, ◌≤◌, true, false, ◌&&◌, List, [], ◌∷◌, ◌++◌, ltb, leb, refl, sym, ◌∙◌, inl, inr, arith}
use Rattle.std.proofs.lemmas.List.Folds.{list_all-append}
use Rattle.std.proofs.lemmas.Bool.{and_from, and_right, and_left, lt-ltb, le-ltb, le-leb, lt-leb, cases_lt}
use Rattle.abi_bits.specs.Pairs.{Pair, are_below}
use Rattle.abi_bits.specs.Mask.{mask_at, entries_below}
use Rattle.abi_bits.proofs.Masks.{below_parts}
use Rattle.abi_bits.proofs.Entries.{entries_at, zero_past}
use Rattle.abi_det.specs.Frame.{Frame}
use Rattle.abi_layout.specs.Builders.{whole_between, byte_from}

pub below_wider : (n m : ℕ) (es : List Pair) → n ≤ m → are_below n es ≡ true → are_below m es ≡ true
below_wider n m [] le b = refl
below_wider n m (e ∷ es) le b =
    let p = below_parts e es n b in
    and_from (ltb e.0 m) (are_below m es) (lt-ltb e.0 m (omega (arith, p.0, le))) (below_wider n m es le p.1)

pub below-append : (n : ℕ) (xs ys : List Pair) → are_below n xs ≡ true → are_below n ys ≡ true → are_below n (xs ++ ys) ≡ true
below-append n xs ys a b = list_all-append (λ p. ltb p.0 n) xs ys ∙ and_from (are_below n xs) (are_below n ys) a b

pub whole_past : (from to at : ℕ) → to ≤ at → whole_between from to at ≡ 0
whole_past from to at le =
    let e : ltb at to ≡ false = le-ltb at to le in
    let n : (leb from at && ltb at to) ≡ false = and_right (leb from at) (ltb at to) e in
    rw n refl

pub whole_before : (from to at : ℕ) → at < from → whole_between from to at ≡ 0
whole_before from to at lt =
    let e : leb from at ≡ false = lt-leb from at lt in
    let n : (leb from at && ltb at to) ≡ false = and_left (leb from at) (ltb at to) e in
    rw n refl

pub whole_inside : (from to at : ℕ) → from ≤ at → at < to → whole_between from to at ≡ 255
whole_inside from to at le lt =
    let a : leb from at ≡ true = le-leb from at le in
    let b : ltb at to ≡ true = lt-ltb at to lt in
    let n : (leb from at && ltb at to) ≡ true = and_from (leb from at) (ltb at to) a b in
    rw n refl

-- no bytes lie between an offset and itself
pub whole_none : (n at : ℕ) → whole_between n n at ≡ 0
whole_none n at = elim (cases_lt at n) [ inl lt ↦ whole_before n n at lt | inr le ↦ whole_past n n at le ]

pub byte_inside : (start : ℕ) (f : Frame) (at : ℕ) → start ≤ at → byte_from start f at ≡ mask_at f.free (at - start)
byte_inside start f at le = let e : leb start at ≡ true = le-leb start at le in rw e refl

pub byte_before : (start : ℕ) (f : Frame) (at : ℕ) → at < start → byte_from start f at ≡ 0
byte_before start f at lt = let e : leb start at ≡ false = lt-leb start at lt in rw e refl

pub byte_past : (start : ℕ) (f : Frame) (at : ℕ) → are_below f.size f.free ≡ true → start + f.size ≤ at → byte_from start f at ≡ 0
byte_past start f at b le = byte_inside start f at (omega (arith, le)) ∙ zero_past f.free f.size (at - start) b (omega (arith, le))

-- what a function tells, where it tells nothing from n on
pub told : (bits : ℕ → ℕ) (n at : ℕ) → (n ≤ at → bits at ≡ 0) → mask_at (entries_below bits n) at ≡ bits at
told bits n at past = entries_at bits n at ∙ elim (cases_lt at n) [
  | inl lt ↦ let e : ltb at n ≡ true = lt-ltb at n lt in rw e refl
  | inr le ↦ let e : ltb at n ≡ false = le-ltb at n le in rw e (sym (past le))
]

pub entries_same : (f g : ℕ → ℕ) (n : ℕ) → ((at : ℕ) → at < n → f at ≡ g at) → entries_below f n ≡ entries_below g n
unfolding entries_below
entries_same f g zero same = refl
entries_same f g (suc n) same =
    let rest : entries_below f n ≡ entries_below g n = entries_same f g n (λ at lt. same at (omega (arith, lt))) in
    let here : f n ≡ g n = same n (omega arith) in
    rw (rest, here) refl

pub entries_equal : (f g : ℕ → ℕ) (n m : ℕ) → n ≡ m → ((at : ℕ) → f at ≡ g at) → entries_below f n ≡ entries_below g m
entries_equal f g n m e same = rw e (entries_same f g m (λ at lt. same at))
