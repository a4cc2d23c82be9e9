-- Scalars: the bytes in which a value stands show it, and legal bytes are those of the value that they show.
use Rattle.std.specs.Prelude.{nat_lt}
use Rattle.std.specs.List.{list_any}
use Rattle.std.proofs.Common.{◌≡◌, ℕ, zero, suc, ◌-◌, ◌<◌, ◌≤◌, List, [], ◌∷◌, ◌++◌, length, get_or, ◌⊎◌, inl, inr, ◌==◌, Bool, true, false, cond, ◌&&◌, ◌||◌, refl, ap, ◌∙◌, sym, subst, arith, lit<, length-append}
use Rattle.std.proofs.lemmas.Bool.{cases_lt}
use Rattle.std.proofs.lemmas.Bool.Decides.{nat_tests}
use Rattle.std.proofs.lemmas.List.{ext_get_or, get_or-append_right, get_or_append_left}
use Rattle.std.proofs.Math.ListN.{get_or-eq_default}
use Rattle.std.proofs.lemmas.List.Folds.{list_all-append}
use Rattle.abi_bits.specs.Pairs.{Pair, is_matched}
use Rattle.abi_bits.specs.Forbidden.{is_match}
use Rattle.abi_pack.specs.ByteMap.{ByteMap, AreBytes, firsts}
use Rattle.abi_pack.specs.Plain.{Plain, unit, integer, boolean, order}
use Rattle.abi_layout.specs.Prims.{width_size, scalar_size, in_width, zero_bytes, scalar_items}
use Rattle.abi_pack.specs.Scalars.{full, digits_of, encoded, decoded, is_int, is_value, low_bytes, low_worth, ordered, order_byte, coded, stored, number_in, is_legal, signed_integer, integer_shown, order_shown, scalar_shown, ShowsScalar}
use Rattle.std.specs.declared.cmp.Ordering.{Ordering}
use Rattle.std.specs.declared.cmp.Ordering.TheVariants as ordering
use Rattle.abi_layout.specs.declared.scalar.Scalar.{Scalar}
use Rattle.abi_layout.specs.declared.scalar.Scalar.TheVariants as scalars
use Rattle.abi_layout.specs.declared.scalar.Integer.{Integer}
use Rattle.abi_pack.proofs.Coding.{HasDigits, digits_small, digits_told, told_digits, encoded_small, decoded_small, decoded_encoded, encoded_decoded}
use Rattle.abi_pack.proofs.Choice.{branch, and_first, and_second, and_both}
use Rattle.abi_pack.proofs.Numbers.{AllBytes, low_length, low_small, low_back, low_again, low_bound, ordered_twice, ordered_length, ordered_small, ordered_each, no_worth}

-- the number that stands for an integer is of the width, stands for that integer alone, and is one that may stand in the bytes
pub record IsCoded (f : Integer) (m : ℕ) (negative : Bool) : Type 0 where
  pub small : coded f m negative < full f.width
  pub told : integer_shown f (coded f m negative) ≡ integer m negative
  pub legal : (f.zero || nat_lt 0 (coded f m negative)) ≡ true

pub int_coded : (f : Integer) (m : ℕ) (negative : Bool) → is_int f m negative ≡ true → IsCoded f m negative
int_coded f m negative h =
    let placed : in_width f.width f.signed m negative ≡ true = and_first (in_width f.width f.signed m negative) _ h in
    let below : digits_of f.width m negative < full f.width = digits_small f.width m negative in
    record {
      small = encoded_small f.width f.stored (digits_of f.width m negative) below;
      told = ap (signed_integer f) (decoded_encoded f.width f.stored (digits_of f.width m negative) below) ∙ digits_told f m negative placed;
      legal = and_second (in_width f.width f.signed m negative) _ h;
    }

pub record IsToldInt (f : Integer) (x : ℕ) (v : Plain) : Type 0 where
  pub value : is_value (scalars.Int f) v ≡ true
  pub same : stored (scalars.Int f) v ≡ ordered f.little (low_bytes (width_size f.width) x)

pub int_again : (f : Integer) (x : ℕ) → x < full f.width → (f.zero || nat_lt 0 x) ≡ true → IsToldInt f x (integer_shown f x)
int_again f x small some =
    let d : ℕ = decoded f.width f.stored x in
    let has : HasDigits f d (signed_integer f d) = told_digits f d (decoded_small f.width f.stored x small) in
    let again : coded f has.magnitude has.negative ≡ x = ap (encoded f.width f.stored) has.digits ∙ encoded_decoded f.width f.stored x small in
    let legal : (f.zero || nat_lt 0 (coded f has.magnitude has.negative)) ≡ true = rw again some in
    subst (IsToldInt f x) (sym has.is) (record {
      value = and_both (in_width f.width f.signed has.magnitude has.negative) _ has.placed legal;
      same = ap (λ n. ordered f.little (low_bytes (width_size f.width) n)) again;
    })

-- ---- the first bytes of an image

pub firsts_length : (n : ℕ) (f : ByteMap) → length (firsts n f) ≡ n
firsts_length zero f = refl
firsts_length (suc n) f = let rest : length (firsts n f) ≡ n = firsts_length n f in simp length-append (omega arith)

pub firsts_at : (n : ℕ) (f : ByteMap) (i : ℕ) → i < n → get_or (firsts n f) i 0 ≡ f i
firsts_at zero f i h = absurd (omega arith)
firsts_at (suc n) f i h = firsts_step n f i h (cases_lt i n) (λ l. firsts_at n f i l)
  where
    firsts_step : (n : ℕ) (f : ByteMap) (i : ℕ) → i < suc n → (i < n) ⊎ (n ≤ i) → (i < n → get_or (firsts n f) i 0 ≡ f i) → get_or (firsts n f ++ f n ∷ []) i 0 ≡ f i
    firsts_step n f i h (inl l) below = let inside : i < length (firsts n f) = rw (firsts_length n f) l in get_or_append_left (firsts n f) (f n ∷ []) 0 i inside ∙ below l
    firsts_step n f i h (inr g) below =
        let same : i ≡ n = omega arith in
        rw same (get_or-append_right (firsts n f) (f n ∷ []) n n 0 (firsts_length n f) (omega arith) ∙ (let none : n - n ≡ 0 = omega arith in rw none refl))

pub firsts_small : (n : ℕ) (f : ByteMap) → AreBytes f → AllBytes (firsts n f)
firsts_small zero f b i = lit< tt
firsts_small (suc n) f b i = small_step n f b i (cases_lt i (suc n))
  where
    small_step : (n : ℕ) (f : ByteMap) → AreBytes f → (i : ℕ) → (i < suc n) ⊎ (suc n ≤ i) → get_or (firsts (suc n) f) i 0 < 256
    small_step n f b i (inl l) = rw (firsts_at (suc n) f i l) (b i)
    small_step n f b i (inr g) = let past : length (firsts (suc n) f) ≤ i = rw (firsts_length (suc n) f) g in rw (get_or-eq_default (firsts (suc n) f) 0 past) (lit< tt)

-- ---- what is stored

pub stored_length : (c : Scalar) (v : Plain) → is_value c v ≡ true → length (stored c v) ≡ scalar_size c
stored_length scalars.Unit unit h = refl
stored_length scalars.Bool (boolean b) h = refl
stored_length scalars.Order (order o) h = refl
stored_length (scalars.Int f) (integer m negative) h =
    ordered_length f.little (low_bytes (width_size f.width) (coded f m negative)) ∙ low_length (width_size f.width) (coded f m negative)
stored_length _ _ h = absurd (cc)

order_small : (o : Ordering) → order_byte o < 256
order_small ordering.Less = lit< tt
order_small ordering.Equal = lit< tt
order_small ordering.Greater = lit< tt

pub stored_small : (c : Scalar) (v : Plain) → is_value c v ≡ true → AllBytes (stored c v)
stored_small scalars.Unit unit h i = lit< tt
stored_small scalars.Bool (boolean true) h zero = lit< tt
stored_small scalars.Bool (boolean false) h zero = lit< tt
stored_small scalars.Bool (boolean b) h (suc i) = lit< tt
stored_small scalars.Order (order o) h zero = order_small o
stored_small scalars.Order (order o) h (suc i) = lit< tt
stored_small (scalars.Int f) (integer m negative) h i =
    ordered_small f.little _ (low_small (width_size f.width) (coded f m negative)) i
stored_small _ _ h i = absurd (cc)

pub number_shown : (f : Integer) (m : ℕ) (negative : Bool) (g : ByteMap) → ShowsScalar (scalars.Int f) (integer m negative) g → number_in f g ≡ coded f m negative
number_shown f m negative g shown =
    let n : ℕ = width_size f.width in
    let written : List ℕ = low_bytes n (coded f m negative) in
    let long : length (ordered f.little written) ≡ n = stored_length (scalars.Int f) (integer m negative) shown.value in
    let same : firsts n g ≡ ordered f.little written =
    ext_get_or 0 (firsts n g) (ordered f.little written) (firsts_length n g ∙ sym long)
    (λ i h. let inside : i < n = rw (firsts_length n g) at h in firsts_at n g i inside ∙ shown.same i inside) in
    let coded_ : IsCoded f m negative = int_coded f m negative shown.value in
    ap (λ xs. low_worth (ordered f.little xs)) same ∙ ap low_worth (ordered_twice f.little written) ∙ low_back n (coded f m negative) coded_.small

-- ---- bytes that show a value are legal

order_legal : (o : Ordering) (x : ℕ) → x ≡ order_byte o → (nat_lt x 2 || x == 255) ≡ true
order_legal ordering.Less x e = rw e refl
order_legal ordering.Equal x e = rw e refl
order_legal ordering.Greater x e = rw e refl

order_told : (o : Ordering) → order_shown (order_byte o) ≡ o
order_told ordering.Less = refl
order_told ordering.Equal = refl
order_told ordering.Greater = refl

pub shown_legal : (c : Scalar) (v : Plain) (g : ByteMap) → ShowsScalar c v g → is_legal c g ≡ true
shown_legal scalars.Unit unit g shown = refl
shown_legal scalars.Bool (boolean true) g shown = let one : g 0 ≡ 1 = shown.same 0 (lit< tt) in grind (arith, nat_tests)
shown_legal scalars.Bool (boolean false) g shown = let none : g 0 ≡ 0 = shown.same 0 (lit< tt) in grind (arith, nat_tests)
shown_legal scalars.Order (order o) g shown = order_legal o (g 0) (shown.same 0 (lit< tt))
shown_legal (scalars.Int f) (integer m negative) g shown = rw (number_shown f m negative g shown) (int_coded f m negative shown.value).legal
shown_legal _ _ g shown = absurd (let h = shown.value in cc)

pub shown_told : (c : Scalar) (v : Plain) (g : ByteMap) → ShowsScalar c v g → v ≡ scalar_shown c g
shown_told scalars.Unit unit g shown = refl
shown_told scalars.Bool (boolean true) g shown =
    let one : g 0 ≡ 1 = shown.same 0 (lit< tt) in let test : nat_lt 0 (g 0) ≡ true = grind (arith, nat_tests) in rw test refl
shown_told scalars.Bool (boolean false) g shown =
    let none : g 0 ≡ 0 = shown.same 0 (lit< tt) in let test : nat_lt 0 (g 0) ≡ false = grind (arith, nat_tests) in rw test refl
shown_told scalars.Order (order o) g shown = ap order (sym (ap order_shown (shown.same 0 (lit< tt)) ∙ order_told o))
shown_told (scalars.Int f) (integer m negative) g shown = sym (rw (number_shown f m negative g shown) (int_coded f m negative shown.value).told)
shown_told _ _ g shown = absurd (let h = shown.value in cc)

bool_shown : (g : ByteMap) (b : Bool) → nat_lt 0 (g 0) ≡ b → nat_lt (g 0) 2 ≡ true → ShowsScalar scalars.Bool (boolean b) g
bool_shown g true e h = record { value = refl; same = λ i l. let first : i ≡ 0 = omega arith in rw first (grind (arith, nat_tests)) }
bool_shown g false e h = record { value = refl; same = λ i l. let first : i ≡ 0 = omega arith in rw first (grind (arith, nat_tests)) }

int_shown : (f : Integer) (g : ByteMap) → AreBytes g → (f.zero || nat_lt 0 (number_in f g)) ≡ true → ShowsScalar (scalars.Int f) (integer_shown f (number_in f g)) g
int_shown f g b legal =
    let n : ℕ = width_size f.width in
    let there : List ℕ = ordered f.little (firsts n g) in
    let long : length there ≡ n = ordered_length f.little (firsts n g) ∙ firsts_length n g in
    let small : AllBytes there = ordered_small f.little (firsts n g) (firsts_small n g b) in
    let bound : low_worth there < full f.width = rw long at (low_bound there small) in
    let told : IsToldInt f (low_worth there) (integer_shown f (low_worth there)) = int_again f (low_worth there) bound legal in
    let again : low_bytes n (low_worth there) ≡ there = rw long at (low_again there small) in
    let same : stored (scalars.Int f) (integer_shown f (low_worth there)) ≡ firsts n g =
    told.same ∙ ap (ordered f.little) again ∙ ordered_twice f.little (firsts n g) in
    record { value = told.value; same = λ i h. sym (rw same (firsts_at n g i h)) }

-- a legal byte is that of the order which it shows
order_again : (x : ℕ) → (nat_lt x 2 || x == 255) ≡ true → order_byte (order_shown x) ≡ x
order_again x h =
    branch (λ o. order_byte o ≡ x) (x == 0) ordering.Equal (cond (x == 1) ordering.Greater ordering.Less) (λ zero_. grind (arith, nat_tests))
    (λ some. branch (λ o. order_byte o ≡ x) (x == 1) ordering.Greater ordering.Less (λ one. grind (arith, nat_tests)) (λ more. grind (arith, nat_tests)))

pub legal_shown : (c : Scalar) (g : ByteMap) → AreBytes g → is_legal c g ≡ true → ShowsScalar c (scalar_shown c g) g
legal_shown scalars.Unit g b legal = record { value = refl; same = λ i h. absurd (omega arith) }
legal_shown scalars.Bool g b legal = bool_shown g (nat_lt 0 (g 0)) refl legal
legal_shown scalars.Order g b legal = record {
  value = refl;
  same = λ i l. let first : i ≡ 0 = omega arith in rw first (sym (order_again (g 0) legal));
}
legal_shown (scalars.Int f) g b legal = int_shown f g b legal

pub number_bound : (f : Integer) (g : ByteMap) → AreBytes g → number_in f g < full f.width
number_bound f g b =
    let n : ℕ = width_size f.width in
    rw (ordered_length f.little (firsts n g), firsts_length n g) at
    (low_bound (ordered f.little (firsts n g)) (ordered_small f.little (firsts n g) (firsts_small n g b)))

-- ---- bytes that show a value match none of the scalar's items

abbrev has_pair : ByteMap → Pair → Bool
has_pair g p = g p.0 == p.1

zeros : (n : ℕ) (g : ByteMap) → is_matched (zero_bytes n) g ≡ true → (i : ℕ) → i < n → g i ≡ 0
zeros zero g h i l = absurd (omega arith)
zeros (suc n) g h i l =
    let pair : Pair = (n, 0) in
    let parts : (is_matched (zero_bytes n) g && is_matched (pair ∷ []) g) ≡ true =
    sym (list_all-append (has_pair g) (zero_bytes n) (pair ∷ [])) ∙ h in
    let before : is_matched (zero_bytes n) g ≡ true = and_first (is_matched (zero_bytes n) g) _ parts in
    let after : is_matched (pair ∷ []) g ≡ true = and_second (is_matched (zero_bytes n) g) _ parts in
    let here : g n ≡ 0 = grind (arith, nat_tests) in
    zeros_step n g i l here (cases_lt i n) (λ b. zeros n g before i b)
  where
    zeros_step : (n : ℕ) (g : ByteMap) (i : ℕ) → i < suc n → g n ≡ 0 → (i < n) ⊎ (n ≤ i) → (i < n → g i ≡ 0) → g i ≡ 0
    zeros_step n g i l here (inl b) below = below b
    zeros_step n g i l here (inr a) below = let same : i ≡ n = omega arith in rw same here

first_zeros : (n : ℕ) (g : ByteMap) → is_matched (zero_bytes n) g ≡ true → (i : ℕ) → (i < n) ⊎ (n ≤ i) → get_or (firsts n g) i 0 ≡ 0
first_zeros n g h i (inl l) = firsts_at n g i l ∙ zeros n g h i l
first_zeros n g h i (inr a) = let past : length (firsts n g) ≤ i = rw (firsts_length n g) a in get_or-eq_default (firsts n g) 0 past

no_number : (f : Integer) (g : ByteMap) → is_matched (zero_bytes (width_size f.width)) g ≡ true → number_in f g ≡ 0
no_number f g h =
    let n : ℕ = width_size f.width in
    no_worth (ordered f.little (firsts n g)) (ordered_each (λ x. x ≡ 0) f.little (firsts n g) refl (λ i. first_zeros n g h i (cases_lt i n)))

is_no_zero : (f : Integer) (g : ByteMap) → f.zero ≡ false → (f.zero || nat_lt 0 (number_in f g)) ≡ true → (r : Bool) → is_matched (zero_bytes (width_size f.width)) g ≡ r → r ≡ false
is_no_zero f g none legal true e =
    let number : number_in f g ≡ 0 = no_number f g e in
    let test : nat_lt 0 (number_in f g) ≡ true = rw none at legal in absurd (grind (arith, nat_tests))
is_no_zero f g none legal false e = refl

or_false : (p : Bool) → p ≡ false → (p || false) ≡ false
or_false p h = rw h refl

pub scalar_allowed : (c : Scalar) (v : Plain) (g : ByteMap) → ShowsScalar c v g → list_any (is_match g) (scalar_items c) ≡ false
scalar_allowed scalars.Unit v g shown = refl
scalar_allowed scalars.Bool v g shown =
    let low : nat_lt (g 0) 2 ≡ true = shown_legal scalars.Bool v g shown in grind (arith, nat_tests)
scalar_allowed scalars.Order v g shown =
    let legal : (nat_lt (g 0) 2 || g 0 == 255) ≡ true = shown_legal scalars.Order v g shown in grind (arith, nat_tests)
scalar_allowed (scalars.Int f) v g shown =
    let legal : (f.zero || nat_lt 0 (number_in f g)) ≡ true = shown_legal (scalars.Int f) v g shown in
    branch (λ its. list_any (is_match g) its ≡ false) f.zero [] _ (λ _. refl)
    (λ none. or_false (is_matched (zero_bytes (width_size f.width)) g) (is_no_zero f g none legal _ refl))
