-- Texts of digits as std's `parse` reads them.
use Rattle.std.proofs.Common.{◌≡◌, ℕ, ◌<◌, ◌^◌, List, [], ◌∷◌, true, false, ◌&&◌, length, nat_le, ◌==◌, Some, None, Result, Ok, Err, refl, ap, ltb, ◌≢◌, option_map, rules, arith}
use Rattle.std.specs.List.{list_all}
use Rattle.std.specs.Char.{is_ascii_digit}
use Rattle.std.specs.Str.Parse.{ParsesUnsigned}
use Rattle.std.proofs.lemmas.Bool.{and_parts, lt-ltb, ne_eqb}
use Rattle.std.proofs.lemmas.Str.Parse.{IsNumeralModel, numerals_by_fold, parse_digits}
use Rattle.abi_document.specs.Integers.{spelled, is_plain, magnitude_of, signed_by, signed_text}

own : IsNumeralModel (λ ds. list_all is_ascii_digit ds ≡ true) (spelled 0)
own = numerals_by_fold _ (search rules) spelled (search rules)

first_digit : (c : ℕ) → (nat_le 49 c && nat_le c 57) ≡ true → is_ascii_digit c ≡ true
first_digit c p = grind arith

plain_digits : (text : List ℕ) → is_plain text ≡ true → list_all is_ascii_digit text ≡ true
plain_digits [] p = absurd (cc)
plain_digits (c ∷ cs) p =
    let both = and_parts (nat_le 49 c && nat_le c 57) (list_all is_ascii_digit cs) p in
    rw (first_digit c both.0, both.1) refl

plain_some : (text : List ℕ) → is_plain text ≡ true → 0 < length text
plain_some [] p = absurd (cc)
plain_some (c ∷ cs) p = omega arith

pub parsed : {E : Type 0} (text : List ℕ) (r : Result ℕ E) (n : ℕ) → ParsesUnsigned 128 10 text r → is_plain text ≡ true → r ≡ Ok n → Some n ≡ magnitude_of text
unfolding magnitude_of
parsed text r n h p e =
    let told : ((0 < length text) × (spelled 0 text < 2 ^ 128)) × (n ≡ spelled 0 text) = rw e at (parse_digits own 128 text r h (plain_digits text p)) in
    rw (p, lt-ltb (spelled 0 text) (2 ^ 128) told.0.1) (ap Some told.1)

not_below : (m n : ℕ) → (m < n → ⊥) → ltb m n ≡ false
not_below m n h = grind arith

pub refused : {E : Type 0} (text : List ℕ) (r : Result ℕ E) (x : E) → ParsesUnsigned 128 10 text r → is_plain text ≡ true → r ≡ Err x → None ≡ magnitude_of text
unfolding magnitude_of
refused text r x h p e =
    let told : ¬ ((0 < length text) × (spelled 0 text < 2 ^ 128)) = rw e at (parse_digits own 128 text r h (plain_digits text p)) in
    let large : ltb (spelled 0 text) (2 ^ 128) ≡ false = not_below (spelled 0 text) (2 ^ 128) (λ lt. told (plain_some text p, lt)) in
    rw (p, large) refl

-- a text with no `-` in front
pub unsigned_text : (text : List ℕ) → ((rest : List ℕ) → text ≢ 45 ∷ rest) → option_map (signed_by false) (magnitude_of text) ≡ signed_text text
unfolding magnitude_of
unsigned_text [] h = refl
unsigned_text (c ∷ cs) h =
    let other : (c == 45) ≡ false = ne_eqb c 45 (λ e. h cs (ap (λ x. x ∷ cs) e)) in
    rw other refl
