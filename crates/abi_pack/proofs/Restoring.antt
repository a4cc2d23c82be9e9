-- A test's truth imposed on some of the bytes: there they are as if it were imposed on all, and elsewhere as they were.
use Rattle.std.specs.Prelude.{nat_lt, nat_le}
use Rattle.std.specs.Int.{bit_at}
use Rattle.std.proofs.Common.{◌≡◌, ℕ, ◌+◌, ◌<◌, ◌≤◌, ◌≢◌, ◌⊎◌, inl, inr, List, [], ◌∷◌, length, get_or, set, Bool, true, false, cond, ◌&&◌, ◌==◌, refl, ap, ◌∙◌, sym, arith}
use Rattle.std.proofs.lemmas.Bool.{cases_lt}
use Rattle.std.proofs.lemmas.Bool.Decides.{nat_tests, eqb_tells}
use Rattle.std.proofs.lemmas.List.{get_or-set_same, get_or-set_other, length-set}
use Rattle.std.proofs.Math.ListN.{get_or-eq_default}
use Rattle.abi_bits.specs.Pairs.{Pair}
use Rattle.abi_det.specs.State.{test_holds, is_tested, imposed, put_bits, put_pairs}
use Rattle.abi_det.specs.SoundPlacement.{is_imposed, IsTest}
use Rattle.abi_det.specs.declared.determinant.Test.{Test}
use Rattle.abi_det.specs.declared.determinant.Test.TheVariants as test
use Rattle.abi_pack.specs.ByteMap.{bytes_of}
use Rattle.abi_pack.specs.Edits.{Range, IsOutside}
use Rattle.abi_pack.specs.ShapeEdits.{is_inside, put_inside, imposed_inside}
use Rattle.abi_pack.proofs.Choice.{two_truths, and_both, and_first, and_second}
use Rattle.abi_pack.proofs.Imposed.{byte_stays, imposed_length, imposed_small, imposed_kept, imposed_truth}
use Rattle.abi_pack.proofs.Numbers.{AllBytes}
use Rattle.abi_pack.proofs.Truths.{keeps, tested_same}

-- ---- in the range or beside it

pub inside_range : (r : Range) (i : ℕ) → is_inside r i ≡ true → (r.start ≤ i) × (i < r.start + r.size)
inside_range r i h =
    let low : nat_le r.start i ≡ true = and_first (nat_le r.start i) _ h in
    let high : nat_lt i (r.start + r.size) ≡ true = and_second (nat_le r.start i) _ h in
    (grind (arith, nat_tests), grind (arith, nat_tests))

pub is_outside : (r : Range) (i : ℕ) → IsOutside r i → is_inside r i ≡ false
is_outside r i (inl h) = grind (arith, nat_tests)
is_outside r i (inr h) = grind (arith, nat_tests)

pub outside_range : (r : Range) (i : ℕ) → is_inside r i ≡ false → IsOutside r i
outside_range r i h = pick (cases_lt i r.start) (cases_lt i (r.start + r.size))
  where
    pick : (i < r.start) ⊎ (r.start ≤ i) → (i < r.start + r.size) ⊎ (r.start + r.size ≤ i) → IsOutside r i
    pick (inl low) _ = inl low
    pick _ (inr high) = inr high
    pick (inr low) (inl high) =
        let a : nat_le r.start i ≡ true = grind (arith, nat_tests) in
        let b : nat_lt i (r.start + r.size) ≡ true = grind (arith, nat_tests) in
        let c : is_inside r i ≡ true = and_both (nat_le r.start i) _ a b in absurd (cc)

-- ---- a pattern's pairs

set_alike : (xs ys : List ℕ) (o v i : ℕ) → length xs ≡ length ys → get_or xs i 0 ≡ get_or ys i 0
    → ((i == o) ≡ true) × (i ≡ o) ⊎ ((i == o) ≡ false) × (i ≢ o) → (o < length xs) ⊎ (length xs ≤ o)
    → get_or (set xs o v) i 0 ≡ get_or (set ys o v) i 0
set_alike xs ys o v i long same (inr e) _ = get_or-set_other xs o i v 0 e.1 ∙ same ∙ sym (get_or-set_other ys o i v 0 e.1)
set_alike xs ys o v i long same (inl e) (inl h) =
    let there : o < length ys = omega (arith, long) in rw (e.1, get_or-set_same xs o v 0 h, get_or-set_same ys o v 0 there) refl
set_alike xs ys o v i long same (inl e) (inr h) =
    let a : length (set xs o v) ≤ i = rw (length-set xs o v) (omega (arith, e.1)) in
    let b : length (set ys o v) ≤ i = rw (length-set ys o v) (omega (arith, e.1, long)) in
    get_or-eq_default (set xs o v) 0 a ∙ sym (get_or-eq_default (set ys o v) 0 b)

chosen_length : (b : Bool) (xs : List ℕ) (o v : ℕ) → length (cond b (set xs o v) xs) ≡ length xs
chosen_length true xs o v = length-set xs o v
chosen_length false xs o v = refl

put_length : (r : Range) (ps : List Pair) (xs : List ℕ) → length (put_inside r ps xs) ≡ length xs
put_length r [] xs = refl
put_length r (p ∷ ps) xs = put_length r ps (cond (is_inside r p.0) (set xs p.0 p.1) xs) ∙ chosen_length (is_inside r p.0) xs p.0 p.1

apart : (r : Range) (i o : ℕ) (p q : Bool) → is_inside r i ≡ p → is_inside r o ≡ q → (p ≡ q → ⊥) → i ≢ o
apart r i o p q a b other same = other (sym a ∙ ap (is_inside r) same ∙ b)

step_inside : (r : Range) (o v i : ℕ) (xs ys : List ℕ) → length xs ≡ length ys → is_inside r i ≡ true → get_or xs i 0 ≡ get_or ys i 0
    → (is_inside r o ≡ true) ⊎ (is_inside r o ≡ false) → get_or (cond (is_inside r o) (set xs o v) xs) i 0 ≡ get_or (set ys o v) i 0
step_inside r o v i xs ys long h same (inl e) = rw e (set_alike xs ys o v i long same (eqb_tells i o) (cases_lt o (length xs)))
step_inside r o v i xs ys long h same (inr e) = rw e (same ∙ sym (get_or-set_other ys o i v 0 (apart r i o true false h e (λ x. absurd (cc)))))

put_within : (r : Range) (ps : List Pair) (xs ys : List ℕ) (i : ℕ) → length xs ≡ length ys → is_inside r i ≡ true → get_or xs i 0 ≡ get_or ys i 0
    → get_or (put_inside r ps xs) i 0 ≡ get_or (put_pairs ps ys) i 0
put_within r [] xs ys i long h same = same
put_within r (p ∷ ps) xs ys i long h same =
    put_within r ps (cond (is_inside r p.0) (set xs p.0 p.1) xs) (set ys p.0 p.1) i
    (chosen_length (is_inside r p.0) xs p.0 p.1 ∙ long ∙ sym (length-set ys p.0 p.1)) h
    (step_inside r p.0 p.1 i xs ys long h same (two_truths _))

step_beside : (r : Range) (o v i : ℕ) (xs : List ℕ) → is_inside r i ≡ false → (is_inside r o ≡ true) ⊎ (is_inside r o ≡ false)
    → get_or (cond (is_inside r o) (set xs o v) xs) i 0 ≡ get_or xs i 0
step_beside r o v i xs h (inl e) = rw e (get_or-set_other xs o i v 0 (apart r i o false true h e (λ x. absurd (cc))))
step_beside r o v i xs h (inr e) = rw e refl

put_beside : (r : Range) (ps : List Pair) (xs : List ℕ) (i : ℕ) → is_inside r i ≡ false → get_or (put_inside r ps xs) i 0 ≡ get_or xs i 0
put_beside r [] xs i h = refl
put_beside r (p ∷ ps) xs i h =
    put_beside r ps (cond (is_inside r p.0) (set xs p.0 p.1) xs) i h ∙ step_beside r p.0 p.1 i xs h (two_truths _)

-- ---- one bit

bit_within : (r : Range) (o m i : ℕ) (sign : Bool) (xs : List ℕ) → is_inside r i ≡ true → (is_inside r o ≡ true) ⊎ (is_inside r o ≡ false)
    → get_or (cond (is_inside r o) (put_bits o m sign xs) xs) i 0 ≡ get_or (put_bits o m sign xs) i 0
bit_within r o m i sign xs h (inl e) = rw e refl
bit_within r o m i sign xs h (inr e) = rw e (sym (byte_stays o m sign xs i (apart r i o true false h e (λ x. absurd (cc)))))

bit_beside : (r : Range) (o m i : ℕ) (sign : Bool) (xs : List ℕ) → is_inside r i ≡ false → (is_inside r o ≡ true) ⊎ (is_inside r o ≡ false)
    → get_or (cond (is_inside r o) (put_bits o m sign xs) xs) i 0 ≡ get_or xs i 0
bit_beside r o m i sign xs h (inl e) = rw e (byte_stays o m sign xs i (apart r i o false true h e (λ x. absurd (cc))))
bit_beside r o m i sign xs h (inr e) = rw e refl

chosen_bit_length : (b : Bool) (t : Test) (sign : Bool) (xs : List ℕ) → length (cond b (imposed t sign xs) xs) ≡ length xs
chosen_bit_length true t sign xs = imposed_length t sign xs
chosen_bit_length false t sign xs = refl

-- ---- every test

pub within_imposed : (r : Range) (t : Test) (sign : Bool) (xs : List ℕ) (i : ℕ) → is_inside r i ≡ true
    → get_or (imposed_inside r t sign xs) i 0 ≡ get_or (imposed t sign xs) i 0
within_imposed r test.BitDeterminant sign xs i h = bit_within r 0 1 i sign xs h (two_truths _)
within_imposed r (test.ValueIsErr ps) true xs i h = put_within r ps xs xs i refl h refl
within_imposed r (test.ValueIsErr ps) false xs i h = refl
within_imposed r (test.BitIsErr o m) sign xs i h = bit_within r o m i sign xs h (two_truths _)

pub beside_imposed : (r : Range) (t : Test) (sign : Bool) (xs : List ℕ) (i : ℕ) → is_inside r i ≡ false
    → get_or (imposed_inside r t sign xs) i 0 ≡ get_or xs i 0
beside_imposed r test.BitDeterminant sign xs i h = bit_beside r 0 1 i sign xs h (two_truths _)
beside_imposed r (test.ValueIsErr ps) true xs i h = put_beside r ps xs i h
beside_imposed r (test.ValueIsErr ps) false xs i h = refl
beside_imposed r (test.BitIsErr o m) sign xs i h = bit_beside r o m i sign xs h (two_truths _)

pub inside_length : (r : Range) (t : Test) (sign : Bool) (xs : List ℕ) → length (imposed_inside r t sign xs) ≡ length xs
inside_length r test.BitDeterminant sign xs = chosen_bit_length (is_inside r 0) test.BitDeterminant sign xs
inside_length r (test.ValueIsErr ps) true xs = put_length r ps xs
inside_length r (test.ValueIsErr ps) false xs = refl
inside_length r (test.BitIsErr o m) sign xs = chosen_bit_length (is_inside r o) (test.BitIsErr o m) sign xs

pub inside_small : (r : Range) (t : Test) (n : ℕ) (sign : Bool) (xs : List ℕ) → IsTest t n → AllBytes xs → AllBytes (imposed_inside r t sign xs)
inside_small r t n sign xs is small i = pick (two_truths (is_inside r i))
  where
    pick : (is_inside r i ≡ true) ⊎ (is_inside r i ≡ false) → get_or (imposed_inside r t sign xs) i 0 < 256
    pick (inl h) = rw (within_imposed r t sign xs i h) (imposed_small t n sign xs is small i)
    pick (inr h) = rw (beside_imposed r t sign xs i h) (small i)

-- a bit stays that is none of the test's
pub inside_kept : (r : Range) (t : Test) (n : ℕ) (sign : Bool) (xs : List ℕ) (i k : ℕ) → IsTest t n → n ≤ length xs → k < 8
    → (is_imposed t sign && is_tested t i k) ≡ false → bit_at (get_or (imposed_inside r t sign xs) i 0) k ≡ bit_at (get_or xs i 0) k
inside_kept r t n sign xs i k is long low none = pick (two_truths (is_inside r i))
  where
    pick : (is_inside r i ≡ true) ⊎ (is_inside r i ≡ false) → bit_at (get_or (imposed_inside r t sign xs) i 0) k ≡ bit_at (get_or xs i 0) k
    pick (inl h) = ap (λ x. bit_at x k) (within_imposed r t sign xs i h) ∙ imposed_kept t n sign xs i k is long low none
    pick (inr h) = ap (λ x. bit_at x k) (beside_imposed r t sign xs i h)

-- the test has its truth where it had it in bytes that are the same beside the range
pub inside_truth : (r : Range) (t : Test) (n : ℕ) (sign : Bool) (old xs : List ℕ) → IsTest t n → n ≤ length xs → AllBytes xs
    → is_imposed t sign ≡ true → test_holds t (bytes_of old) ≡ sign → ((i : ℕ) → is_inside r i ≡ false → get_or xs i 0 ≡ get_or old i 0)
    → test_holds t (bytes_of (imposed_inside r t sign xs)) ≡ sign
inside_truth r t n sign old xs is long small written before same =
    let whole : test_holds t (bytes_of (imposed t sign xs)) ≡ sign = imposed_truth t n sign xs is long written in
    keeps t n sign (bytes_of (imposed t sign xs)) (bytes_of (imposed_inside r t sign xs)) is (λ i. imposed_small t n sign xs is small i)
    (λ i. inside_small r t n sign xs is small i) whole
    (λ _ i k low eight own. by_place i k own whole (two_truths (is_inside r i))) (λ none. absurd (cc))
  where
    by_place : (i k : ℕ) → is_tested t i k ≡ true → test_holds t (bytes_of (imposed t sign xs)) ≡ sign → (is_inside r i ≡ true) ⊎ (is_inside r i ≡ false)
        → bit_at (get_or (imposed t sign xs) i 0) k ≡ bit_at (get_or (imposed_inside r t sign xs) i 0) k
    by_place i k own whole (inl h) = ap (λ x. bit_at x k) (sym (within_imposed r t sign xs i h))
    by_place i k own whole (inr h) =
        tested_same t n sign (bytes_of (imposed t sign xs)) (bytes_of old) is whole before written i k own
        ∙ ap (λ x. bit_at x k) (sym (same i h) ∙ sym (beside_imposed r t sign xs i h))
