-- Writing a test's truth: its own bits take the truth, and every other bit stays.
use Rattle.std.specs.Prelude.{nat_lt, nat_le, bit_or, bit_and}
use Rattle.std.specs.List.{list_any, list_all}
use Rattle.std.specs.Int.{bit_at, bit_not, w8}
use Rattle.std.proofs.Common.{◌≡◌, ℕ, ◌+◌, ◌-◌, ◌^◌, ◌<◌, ◌≤◌, ◌≢◌, ◌⊎◌, inl, inr, List, [], ◌∷◌, length, get_or, set, min, max, Bool, true, false, ◌&&◌, not, ◌==◌, refl, ap, ◌∙◌, sym, subst, arith, lit<}
use Rattle.std.proofs.lemmas.Bool.{cases_lt}
use Rattle.std.proofs.lemmas.Bool.Decides.{nat_tests, eqb_tells}
use Rattle.std.proofs.lemmas.Nat.{pow_below, or_lt, and_le_l}
use Rattle.std.proofs.lemmas.Nat.Bits.{bit_at-lt, bit_at-pow_same, bit_at-pow_other, bit_at_or, bit_at_and, bit_at_not}
use Rattle.std.proofs.lemmas.List.{get_or-set_same, get_or-set_other, length-set}
use Rattle.std.proofs.Math.ListN.{get_or-eq_default}
use Rattle.abi_bits.specs.Pairs.{Pair, is_matched, is_empty, are_below, are_rising}
use Rattle.abi_det.specs.State.{test_holds, is_tested, imposed, put_bits, put_pairs}
use Rattle.abi_det.specs.declared.determinant.Test.{Test}
use Rattle.abi_det.specs.declared.determinant.Test.TheVariants as test
use Rattle.abi_pack.specs.ByteMap.{bytes_of}
use Rattle.abi_det.specs.SoundPlacement.{is_imposed, IsTest}
use Rattle.abi_pack.proofs.Choice.{and_first, and_second, and_both, neither_first, neither_second, neither}
use Rattle.abi_pack.proofs.Numbers.{AllBytes}
use Rattle.abi_pack.proofs.Truths.{OneBit, one_bit_test}

-- ---- a byte written into a list

set_at : (xs : List ℕ) (o v i : ℕ) → i ≡ o → o < length xs → get_or (set xs o v) i 0 ≡ v
set_at xs o v i e h = rw e (get_or-set_same xs o v 0 h)

set_small_at : (xs : List ℕ) (o v i : ℕ) → v < 256 → AllBytes xs → ((i == o) ≡ true) × (i ≡ o) ⊎ ((i == o) ≡ false) × (i ≢ o) → (o < length xs) ⊎ (length xs ≤ o) → get_or (set xs o v) i 0 < 256
set_small_at xs o v i small b (inr e) there = rw (get_or-set_other xs o i v 0 e.1) (b i)
set_small_at xs o v i small b (inl e) (inl h) = rw (set_at xs o v i e.1 h) small
set_small_at xs o v i small b (inl e) (inr h) =
    let past : length (set xs o v) ≤ i = rw (length-set xs o v) (omega (arith, e.1)) in rw (get_or-eq_default (set xs o v) 0 past) (lit< tt)

pub set_small : (xs : List ℕ) (o v : ℕ) → v < 256 → AllBytes xs → AllBytes (set xs o v)
set_small xs o v small b i = set_small_at xs o v i small b (eqb_tells i o) (cases_lt o (length xs))

-- ---- one bit

bit_length : (o m : ℕ) (sign : Bool) (xs : List ℕ) → length (put_bits o m sign xs) ≡ length xs
bit_length o m true xs = length-set xs o (bit_or (get_or xs o 0) m)
bit_length o m false xs = length-set xs o (bit_and (get_or xs o 0) (bit_not w8 m))

bit_small : (o b : ℕ) (sign : Bool) (xs : List ℕ) → b < 8 → AllBytes xs → AllBytes (put_bits o (2 ^ b) sign xs)
bit_small o b true xs low small = set_small xs o (bit_or (get_or xs o 0) (2 ^ b)) (or_lt 8 (get_or xs o 0) (2 ^ b) (small o) (pow_below b 8 low)) small
bit_small o b false xs low small =
    let less : bit_and (get_or xs o 0) (bit_not w8 (2 ^ b)) ≤ get_or xs o 0 = and_le_l (get_or xs o 0) (bit_not w8 (2 ^ b)) in
    let byte : get_or xs o 0 < 256 = small o in
    set_small xs o (bit_and (get_or xs o 0) (bit_not w8 (2 ^ b))) (omega arith) small

greatest_bit : (x : ℕ) → x < 2 → (max x 1 == 1) ≡ true
greatest_bit x h = grind (arith, nat_tests)

least_bit_ : (x : ℕ) → (min x (1 - 1) == 1) ≡ false
least_bit_ x = grind (arith, nat_tests)

bit_written : (o b : ℕ) (sign : Bool) (xs : List ℕ) → b < 8 → o < length xs → (bit_at (get_or (put_bits o (2 ^ b) sign xs) o 0) b == 1) ≡ sign
bit_written o b true xs low inside =
    let bit : bit_at (get_or xs o 0) b < 2 = bit_at-lt (get_or xs o 0) b in
    rw (get_or-set_same xs o (bit_or (get_or xs o 0) (2 ^ b)) 0 inside, bit_at_or (get_or xs o 0) (2 ^ b) b, bit_at-pow_same b)
    (greatest_bit (bit_at (get_or xs o 0) b) bit)
bit_written o b false xs low inside =
    rw (
      get_or-set_same xs o (bit_and (get_or xs o 0) (bit_not w8 (2 ^ b))) 0 inside,
      bit_at_and (get_or xs o 0) (bit_not w8 (2 ^ b)) b,
      bit_at_not w8 (2 ^ b) b (pow_below b 8 low) low,
      bit_at-pow_same b,
    )
    (least_bit_ (bit_at (get_or xs o 0) b))

bit_stays : (o b : ℕ) (sign : Bool) (xs : List ℕ) (k : ℕ) → b < 8 → k < 8 → o < length xs → k ≢ b
    → bit_at (get_or (put_bits o (2 ^ b) sign xs) o 0) k ≡ bit_at (get_or xs o 0) k
bit_stays o b true xs k low small inside other =
    let bit : bit_at (get_or xs o 0) k < 2 = bit_at-lt (get_or xs o 0) k in
    rw (get_or-set_same xs o (bit_or (get_or xs o 0) (2 ^ b)) 0 inside, bit_at_or (get_or xs o 0) (2 ^ b) k, bit_at-pow_other b k other) (omega arith)
bit_stays o b false xs k low small inside other =
    let bit : bit_at (get_or xs o 0) k < 2 = bit_at-lt (get_or xs o 0) k in
    rw (
      get_or-set_same xs o (bit_and (get_or xs o 0) (bit_not w8 (2 ^ b))) 0 inside,
      bit_at_and (get_or xs o 0) (bit_not w8 (2 ^ b)) k,
      bit_at_not w8 (2 ^ b) k (pow_below b 8 low) small,
      bit_at-pow_other b k other,
    ) (omega arith)

pub byte_stays : (o m : ℕ) (sign : Bool) (xs : List ℕ) (i : ℕ) → i ≢ o → get_or (put_bits o m sign xs) i 0 ≡ get_or xs i 0
byte_stays o m true xs i other = get_or-set_other xs o i (bit_or (get_or xs o 0) m) 0 other
byte_stays o m false xs i other = get_or-set_other xs o i (bit_and (get_or xs o 0) (bit_not w8 m)) 0 other

bit_kept : (o b : ℕ) (sign : Bool) (xs : List ℕ) (i k : ℕ) → b < 8 → k < 8 → o < length xs → ((i ≡ o) × (k ≡ b) → ⊥)
    → ((i == o) ≡ true) × (i ≡ o) ⊎ ((i == o) ≡ false) × (i ≢ o)
    → bit_at (get_or (put_bits o (2 ^ b) sign xs) i 0) k ≡ bit_at (get_or xs i 0) k
bit_kept o b sign xs i k low small inside other (inl e) =
    subst (λ j. bit_at (get_or (put_bits o (2 ^ b) sign xs) j 0) k ≡ bit_at (get_or xs j 0) k) (sym e.1)
    (bit_stays o b sign xs k low small inside (λ same. other (e.1, same)))
bit_kept o b sign xs i k low small inside other (inr e) = ap (λ x. bit_at x k) (byte_stays o (2 ^ b) sign xs i e.1)

-- ---- a pattern

pairs_length : (ps : List Pair) (xs : List ℕ) → length (put_pairs ps xs) ≡ length xs
pairs_length [] xs = refl
pairs_length (p ∷ ps) xs = pairs_length ps (set xs p.0 p.1) ∙ length-set xs p.0 p.1

pairs_small : (ps : List Pair) (xs : List ℕ) → list_all (λ p. nat_lt p.1 256) ps ≡ true → AllBytes xs → AllBytes (put_pairs ps xs)
pairs_small [] xs h b i = b i
pairs_small (p ∷ ps) xs h b i =
    let first : nat_lt p.1 256 ≡ true = and_first (nat_lt p.1 256) _ h in
    let small : p.1 < 256 = grind (arith, nat_tests) in
    pairs_small ps (set xs p.0 p.1) (and_second (nat_lt p.1 256) _ h) (set_small xs p.0 p.1 small b) i

pairs_kept : (ps : List Pair) (xs : List ℕ) (i : ℕ) → list_any (λ p. p.0 == i) ps ≡ false → get_or (put_pairs ps xs) i 0 ≡ get_or xs i 0
pairs_kept [] xs i h = refl
pairs_kept (p ∷ ps) xs i h =
    let here : (p.0 == i) ≡ false = neither_first (p.0 == i) _ h in
    let other : i ≢ p.0 = λ e. (let same : (p.0 == i) ≡ true = grind (arith, nat_tests) in absurd (cc)) in
    pairs_kept ps (set xs p.0 p.1) i (neither_second (p.0 == i) _ h) ∙ get_or-set_other xs p.0 i p.1 0 other

above_least : (ps : List Pair) (least i : ℕ) → are_rising least ps ≡ true → i < least → list_any (λ p. p.0 == i) ps ≡ false
above_least [] least i h below = refl
above_least (p ∷ ps) least i h below =
    let front : (nat_le least p.0 && nat_lt p.0 1048576) ≡ true = and_first (nat_le least p.0 && nat_lt p.0 1048576) _ h in
    let first : nat_le least p.0 ≡ true = and_first (nat_le least p.0) _ front in
    let other : (p.0 == i) ≡ false = grind (arith, nat_tests) in
    let more_ : i < p.0 + 1 = grind (arith, nat_tests) in
    neither (p.0 == i) _ other (above_least ps (p.0 + 1) i (and_second (nat_le least p.0 && nat_lt p.0 1048576) _ h) more_)

pairs_matched : (ps : List Pair) (least : ℕ) (xs : List ℕ) → are_rising least ps ≡ true → are_below (length xs) ps ≡ true
    → is_matched ps (bytes_of (put_pairs ps xs)) ≡ true
pairs_matched [] least xs rising below = refl
pairs_matched (p ∷ ps) least xs rising below =
    let later : are_rising (p.0 + 1) ps ≡ true = and_second (nat_le least p.0 && nat_lt p.0 1048576) _ rising in
    let first : nat_lt p.0 (length xs) ≡ true = and_first (nat_lt p.0 (length xs)) _ below in
    let inside : p.0 < length xs = grind (arith, nat_tests) in
    let kept : get_or (put_pairs ps (set xs p.0 p.1)) p.0 0 ≡ p.1 =
    pairs_kept ps (set xs p.0 p.1) p.0 (above_least ps (p.0 + 1) p.0 later (omega arith)) ∙ get_or-set_same xs p.0 p.1 0 inside in
    let rest : is_matched ps (bytes_of (put_pairs ps (set xs p.0 p.1))) ≡ true =
    pairs_matched ps (p.0 + 1) (set xs p.0 p.1) later (rw (length-set xs p.0 p.1) (and_second (nat_lt p.0 (length xs)) _ below)) in
    and_both (get_or (put_pairs ps (set xs p.0 p.1)) p.0 0 == p.1) _ (let self : (p.1 == p.1) ≡ true = grind (arith, nat_tests) in rw kept self) rest

-- ---- every test

bit_imposed_small : (t : Test) (n : ℕ) (sign : Bool) (xs : List ℕ) → OneBit t n → AllBytes xs → AllBytes (imposed t sign xs)
bit_imposed_small t n sign xs is small i = rw (is.writes sign xs) (bit_small is.at is.bit sign xs is.low small i)

pub imposed_length : (t : Test) (sign : Bool) (xs : List ℕ) → length (imposed t sign xs) ≡ length xs
imposed_length test.BitDeterminant sign xs = bit_length 0 1 sign xs
imposed_length (test.BitIsErr o m) sign xs = bit_length o m sign xs
imposed_length (test.ValueIsErr ps) true xs = pairs_length ps xs
imposed_length (test.ValueIsErr ps) false xs = refl

pub imposed_small : (t : Test) (n : ℕ) (sign : Bool) (xs : List ℕ) → IsTest t n → AllBytes xs → AllBytes (imposed t sign xs)
imposed_small test.BitDeterminant n sign xs is small i = bit_imposed_small test.BitDeterminant n sign xs (one_bit_test test.BitDeterminant n tt is) small i
imposed_small (test.BitIsErr o m) n sign xs is small i = bit_imposed_small (test.BitIsErr o m) n sign xs (one_bit_test (test.BitIsErr o m) n tt is) small i
imposed_small (test.ValueIsErr ps) n true xs is small i =
    pairs_small ps xs is.2 small i
imposed_small (test.ValueIsErr ps) n false xs is small i = small i

bit_imposed_kept : (t : Test) (n : ℕ) (sign : Bool) (xs : List ℕ) (i k : ℕ) → OneBit t n → n ≤ length xs → k < 8 → (is_imposed t sign && is_tested t i k) ≡ false
    → bit_at (get_or (imposed t sign xs) i 0) k ≡ bit_at (get_or xs i 0) k
bit_imposed_kept t n sign xs i k is long small apart =
    let below : is.at < n = is.below in
    rw (is.writes sign xs)
    (bit_kept is.at is.bit sign xs i k is.low small (omega arith)
    (λ same. (let own : is_tested t i k ≡ true = rw (same.0, same.1) is.own in
    let both : (is_imposed t sign && is_tested t i k) ≡ true = and_both (is_imposed t sign) _ (is.always sign) own in absurd (cc)))
    (eqb_tells i is.at))

pub imposed_kept : (t : Test) (n : ℕ) (sign : Bool) (xs : List ℕ) (i k : ℕ) → IsTest t n → n ≤ length xs → k < 8 → (is_imposed t sign && is_tested t i k) ≡ false
    → bit_at (get_or (imposed t sign xs) i 0) k ≡ bit_at (get_or xs i 0) k
imposed_kept test.BitDeterminant n sign xs i k is long small apart =
    bit_imposed_kept test.BitDeterminant n sign xs i k (one_bit_test test.BitDeterminant n tt is) long small apart
imposed_kept (test.BitIsErr o m) n sign xs i k is long small apart =
    bit_imposed_kept (test.BitIsErr o m) n sign xs i k (one_bit_test (test.BitIsErr o m) n tt is) long small apart
imposed_kept (test.ValueIsErr ps) n true xs i k is long small apart = ap (λ x. bit_at x k) (pairs_kept ps xs i apart)
imposed_kept (test.ValueIsErr ps) n false xs i k is long small apart = refl

bit_imposed_truth : (t : Test) (n : ℕ) (sign : Bool) (xs : List ℕ) → OneBit t n → n ≤ length xs → test_holds t (bytes_of (imposed t sign xs)) ≡ sign
bit_imposed_truth t n sign xs is long =
    let below : is.at < n = is.below in
    is.truth (bytes_of (imposed t sign xs)) ∙ rw (is.writes sign xs) (bit_written is.at is.bit sign xs is.low (omega arith))

below_longer : (n m : ℕ) (ps : List Pair) → n ≤ m → are_below n ps ≡ true → are_below m ps ≡ true
below_longer n m [] le h = refl
below_longer n m (p ∷ ps) le h =
    let first : nat_lt p.0 n ≡ true = and_first (nat_lt p.0 n) _ h in
    let still : nat_lt p.0 m ≡ true = grind (arith, nat_tests) in
    and_both (nat_lt p.0 m) _ still (below_longer n m ps le (and_second (nat_lt p.0 n) _ h))

pub imposed_truth : (t : Test) (n : ℕ) (sign : Bool) (xs : List ℕ) → IsTest t n → n ≤ length xs → is_imposed t sign ≡ true
    → test_holds t (bytes_of (imposed t sign xs)) ≡ sign
imposed_truth test.BitDeterminant n sign xs is long imposed = bit_imposed_truth test.BitDeterminant n sign xs (one_bit_test test.BitDeterminant n tt is) long
imposed_truth (test.BitIsErr o m) n sign xs is long imposed = bit_imposed_truth (test.BitIsErr o m) n sign xs (one_bit_test (test.BitIsErr o m) n tt is) long
imposed_truth (test.ValueIsErr ps) n true xs is long imposed =
    let rising : are_rising 0 ps ≡ true = and_second (not (is_empty ps)) _ is.0 in
    let below : are_below n ps ≡ true = is.1 in
    pairs_matched ps 0 xs rising (below_longer n (length xs) ps long below)
imposed_truth (test.ValueIsErr ps) n false xs is long imposed = absurd (cc)
