-- Tests of a sum's bytes: what their own bits say of their truth.
use Rattle.std.specs.Prelude.{nat_lt}
use Rattle.std.specs.List.{list_any}
use Rattle.std.specs.Int.{bit_at}
use Rattle.std.proofs.Common.{◌≡◌, ℕ, ◌*◌, ◌^◌, ◌<◌, ◌≢◌, ◌⊎◌, inl, inr, List, [], ◌∷◌, Bool, true, false, cond, not, ◌==◌, bit_and, refl, ap, ◌∙◌, sym, subst, arith}
use Rattle.std.proofs.lemmas.Bool.Decides.{nat_tests, eqb_tells}
use Rattle.std.proofs.lemmas.Nat.{pow_pos}
use Rattle.std.proofs.lemmas.Nat.Bits.{bit_at-lt, and_pow, bit_at-pow_same, bit_at-pow_other, same_from_bits_below}
use Rattle.abi_bits.specs.Pairs.{Pair, is_matched, are_below}
use Rattle.abi_det.specs.State.{test_holds, is_tested, is_state_ok, imposed, put_bits}
use Rattle.abi_det.specs.declared.determinant.Test.{Test}
use Rattle.abi_det.specs.declared.determinant.Test.TheVariants as test
use Rattle.abi_pack.specs.ByteMap.{ByteMap, AreBytes}
use Rattle.abi_det.specs.SoundPlacement.{is_imposed, IsTest}
use Rattle.abi_pack.specs.Shows.{sign_of}
use Rattle.abi_layout.specs.declared.part.SumLayout.{SumLayout}
use Rattle.abi_pack.proofs.Choice.{and_first, and_second, or_left, or_right, either_way}

-- two bytes with the same bits are equal
pub same_byte : (x y : ℕ) → x < 256 → y < 256 → ((k : ℕ) → k < 8 → bit_at x k ≡ bit_at y k) → x ≡ y
same_byte x y a b h = same_from_bits_below 8 x y a b h

-- ---- the truth that names a variant

sign_true : (n t : Bool) → cond n t (not t) ≡ true → t ≡ n
sign_true true t h = h
sign_true false true h = absurd (cc)
sign_true false false h = refl

true_sign : (n t : Bool) → t ≡ n → cond n t (not t) ≡ true
true_sign true t h = h
true_sign false t h = ap not h

sign_false : (n t : Bool) → cond n t (not t) ≡ false → t ≡ not n
sign_false true t h = h
sign_false false true h = refl
sign_false false false h = absurd (cc)

false_sign : (n t : Bool) → t ≡ not n → cond n t (not t) ≡ false
false_sign true t h = h
false_sign false t h = ap not h

pub state_sign : (at : SumLayout) (f : ByteMap) (side : Bool) → is_state_ok at.determinant f ≡ side → test_holds at.determinant.test f ≡ sign_of at side
state_sign at f true h = sign_true at.determinant.not (test_holds at.determinant.test f) h
state_sign at f false h = sign_false at.determinant.not (test_holds at.determinant.test f) h

pub sign_state : (at : SumLayout) (f : ByteMap) (side : Bool) → test_holds at.determinant.test f ≡ sign_of at side → is_state_ok at.determinant f ≡ side
sign_state at f true h = true_sign at.determinant.not (test_holds at.determinant.test f) h
sign_state at f false h = false_sign at.determinant.not (test_holds at.determinant.test f) h

-- ---- a test of one bit

-- the test is that of one bit of one byte below n
pub record OneBit (t : Test) (n : ℕ) : Type 0 where
  pub at : ℕ
  pub bit : ℕ
  pub below : at < n
  pub low : bit < 8
  pub truth : (f : ByteMap) → test_holds t f ≡ (bit_at (f at) bit == 1)
  pub own : is_tested t at bit ≡ true
  pub alone : (i k : ℕ) → is_tested t i k ≡ true → (i ≡ at) × (k ≡ bit)
  pub always : (sign : Bool) → is_imposed t sign ≡ true
  pub writes : (sign : Bool) (xs : List ℕ) → imposed t sign xs ≡ put_bits at (2 ^ bit) sign xs

pub masked_bit : (x b : ℕ) → not (bit_and x (2 ^ b) == 0) ≡ (bit_at x b == 1)
masked_bit x b =
    let product : bit_and x (2 ^ b) ≡ bit_at x b * 2 ^ b = and_pow x b in
    let bit : bit_at x b < 2 = bit_at-lt x b in
    let some : 0 < 2 ^ b = pow_pos b in
    rw product (bit_test (bit_at x b) (2 ^ b) bit some)
  where
    bit_test : (y p : ℕ) → y < 2 → 0 < p → not (y * p == 0) ≡ (y == 1)
    bit_test y p h s = grind (arith, nat_tests)

pub tag_alone : (i k : ℕ) → cond (i == 0) (k == 0) false ≡ true → (i ≡ 0) × (k ≡ 0)
tag_alone i k h = (grind (arith, nat_tests), grind (arith, nat_tests))

tag_bit : (n : ℕ) → 0 < n → OneBit test.BitDeterminant n
tag_bit n h = record {
  at = 0;
  bit = 0;
  below = h;
  low = omega arith;
  truth = λ f. refl;
  own = refl;
  alone = tag_alone;
  always = λ sign. refl;
  writes = λ sign xs. refl;
}

one_bit : (b k : ℕ) → (bit_at (2 ^ b) k == 1) ≡ true → k ≡ b
one_bit b k h = pick (eqb_tells k b)
  where
    pick : ((k == b) ≡ true) × (k ≡ b) ⊎ ((k == b) ≡ false) × (k ≢ b) → k ≡ b
    pick (inl e) = e.1
    pick (inr e) = let none : bit_at (2 ^ b) k ≡ 0 = bit_at-pow_other b k e.1 in absurd (grind (arith, nat_tests))

mask_alone : (o b i k : ℕ) (t : Bool) → cond (i == o) t false ≡ true → (i ≡ o) × (t ≡ true)
mask_alone o b i k t h = (grind (arith, nat_tests), grind (arith, nat_tests))

mask_bit : (o b n : ℕ) → o < n → b < 8 → OneBit (test.BitIsErr o (2 ^ b)) n
mask_bit o b n below low = record {
  at = o;
  bit = b;
  below = below;
  low = low;
  truth = λ f. masked_bit (f o) b;
  own = (let here : (o == o) ≡ true = grind (arith, nat_tests) in let bit : bit_at (2 ^ b) b ≡ 1 = bit_at-pow_same b in rw (here, bit) refl);
  alone = λ i k h. ((mask_alone o b i k _ h).0, one_bit b k (mask_alone o b i k _ h).1);
  always = λ sign. refl;
  writes = λ sign xs. refl;
}

-- the test is no pattern
abbrev pub IsNoWord : Test → Type 0
IsNoWord test.BitDeterminant = Unit {0}
IsNoWord (test.ValueIsErr ps) = ⊥
IsNoWord (test.BitIsErr o m) = Unit {0}

pub one_bit_test : (t : Test) (n : ℕ) → IsNoWord t → IsTest t n → OneBit t n
one_bit_test test.BitDeterminant n kind is = tag_bit n is
one_bit_test (test.ValueIsErr ps) n kind is = absurd kind
one_bit_test (test.BitIsErr o m) n kind is = subst (λ x. OneBit (test.BitIsErr o x) n) (sym is.1.2) (mask_bit o is.1.0 n is.0 is.1.1)

-- ---- a pattern

same_matched : (ps : List Pair) (f g : ByteMap) → ((i : ℕ) → list_any (λ p. p.0 == i) ps ≡ true → f i ≡ g i) → is_matched ps f ≡ is_matched ps g
same_matched [] f g own = refl
same_matched (p ∷ ps) f g own =
    let self : (p.0 == p.0) ≡ true = grind (arith, nat_tests) in
    let here : f p.0 ≡ g p.0 = own p.0 (or_left (p.0 == p.0) _ self) in
    let rest : is_matched ps f ≡ is_matched ps g = same_matched ps f g (λ i h. own i (or_right (p.0 == i) _ h)) in
    rw (here, rest) refl

pub named_below : (n : ℕ) (ps : List Pair) (i : ℕ) → are_below n ps ≡ true → list_any (λ p. p.0 == i) ps ≡ true → i < n
named_below n [] i below h = absurd (cc)
named_below n (p ∷ ps) i below h =
    either_way (p.0 == i) (list_any (λ q. q.0 == i) ps) h
    (λ e. let first : nat_lt p.0 n ≡ true = and_first (nat_lt p.0 n) _ below in grind (arith, nat_tests))
    (λ e. named_below n ps i (and_second (nat_lt p.0 n) _ below) e)

pub named_same : (ps : List Pair) (f g : ByteMap) (i : ℕ) → is_matched ps f ≡ true → is_matched ps g ≡ true → list_any (λ p. p.0 == i) ps ≡ true → f i ≡ g i
named_same [] f g i a b h = absurd (cc)
named_same (p ∷ ps) f g i a b h =
    either_way (p.0 == i) (list_any (λ q. q.0 == i) ps) h
    (λ e. let left : (f p.0 == p.1) ≡ true = and_first (f p.0 == p.1) _ a in
    let right : (g p.0 == p.1) ≡ true = and_first (g p.0 == p.1) _ b in
    let here : p.0 ≡ i = grind (arith, nat_tests) in
    let both : f p.0 ≡ g p.0 = grind (arith, nat_tests) in subst (λ j. f j ≡ g j) here both)
    (λ e. named_same ps f g i (and_second (f p.0 == p.1) _ a) (and_second (g p.0 == p.1) _ b) e)

-- ---- every test

bit_keeps : (t : Test) (n : ℕ) (sign : Bool) (f g : ByteMap) → OneBit t n → test_holds t f ≡ sign
    → ((i k : ℕ) → i < n → k < 8 → is_tested t i k ≡ true → bit_at (f i) k ≡ bit_at (g i) k) → test_holds t g ≡ sign
bit_keeps t n sign f g is h same =
    is.truth g ∙ ap (λ x. x == 1) (sym (same is.at is.bit is.below is.low is.own)) ∙ sym (is.truth f) ∙ h

word_keeps : (ps : List Pair) (n : ℕ) (f g : ByteMap) → are_below n ps ≡ true → AreBytes f → AreBytes g → is_matched ps f ≡ true
    → ((i k : ℕ) → i < n → k < 8 → list_any (λ p. p.0 == i) ps ≡ true → bit_at (f i) k ≡ bit_at (g i) k) → is_matched ps g ≡ true
word_keeps ps n f g below fb gb h same =
    sym (same_matched ps f g (λ i own. same_byte (f i) (g i) (fb i) (gb i) (λ k small. same i k (named_below n ps i below own) small own))) ∙ h

-- where the test's own bits stay, or its truth is known, the truth is as before
pub keeps : (t : Test) (n : ℕ) (sign : Bool) (f g : ByteMap) → IsTest t n → AreBytes f → AreBytes g → test_holds t f ≡ sign
    → (is_imposed t sign ≡ true → (i k : ℕ) → i < n → k < 8 → is_tested t i k ≡ true → bit_at (f i) k ≡ bit_at (g i) k)
    → (is_imposed t sign ≡ false → test_holds t g ≡ sign) → test_holds t g ≡ sign
keeps test.BitDeterminant n sign f g is fb gb h same absent = bit_keeps test.BitDeterminant n sign f g (one_bit_test test.BitDeterminant n tt is) h (same refl)
keeps (test.BitIsErr o m) n sign f g is fb gb h same absent = bit_keeps (test.BitIsErr o m) n sign f g (one_bit_test (test.BitIsErr o m) n tt is) h (same refl)
keeps (test.ValueIsErr ps) n true f g is fb gb h same absent = word_keeps ps n f g is.1 fb gb h (same refl)
keeps (test.ValueIsErr ps) n false f g is fb gb h same absent = absent refl

bit_same : (t : Test) (n : ℕ) (sign : Bool) (f g : ByteMap) → OneBit t n → test_holds t f ≡ sign → test_holds t g ≡ sign
    → (i k : ℕ) → is_tested t i k ≡ true → bit_at (f i) k ≡ bit_at (g i) k
bit_same t n sign f g is hf hg i k own =
    let place : (i ≡ is.at) × (k ≡ is.bit) = is.alone i k own in
    let left : bit_at (f is.at) is.bit < 2 = bit_at-lt (f is.at) is.bit in
    let right : bit_at (g is.at) is.bit < 2 = bit_at-lt (g is.at) is.bit in
    let tests : (bit_at (f is.at) is.bit == 1) ≡ (bit_at (g is.at) is.bit == 1) = sym (is.truth f) ∙ hf ∙ sym hg ∙ is.truth g in
    rw (place.0, place.1) (same_bit (bit_at (f is.at) is.bit) (bit_at (g is.at) is.bit) left right tests)
  where
    same_bit : (x y : ℕ) → x < 2 → y < 2 → (x == 1) ≡ (y == 1) → x ≡ y
    same_bit x y a c h = grind (arith, nat_tests)

-- a test that is imposed fixes its own bits
pub tested_same : (t : Test) (n : ℕ) (sign : Bool) (f g : ByteMap) → IsTest t n → test_holds t f ≡ sign → test_holds t g ≡ sign
    → is_imposed t sign ≡ true → (i k : ℕ) → is_tested t i k ≡ true → bit_at (f i) k ≡ bit_at (g i) k
tested_same test.BitDeterminant n sign f g is hf hg imposed i k own = bit_same test.BitDeterminant n sign f g (one_bit_test test.BitDeterminant n tt is) hf hg i k own
tested_same (test.BitIsErr o m) n sign f g is hf hg imposed i k own = bit_same (test.BitIsErr o m) n sign f g (one_bit_test (test.BitIsErr o m) n tt is) hf hg i k own
tested_same (test.ValueIsErr ps) n true f g is hf hg imposed i k own = ap (λ x. bit_at x k) (named_same ps f g i hf hg own)
tested_same (test.ValueIsErr ps) n false f g is hf hg imposed i k own = absurd (cc)
