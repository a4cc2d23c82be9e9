-- Integers in binary digits, and the numbers that stand for them.
use Rattle.std.specs.Prelude.{nat_le, bit_and}
use Rattle.std.proofs.Common.{◌≡◌, ℕ, ◌+◌, ◌-◌, ◌*◌, ◌%◌, ◌^◌, ◌<◌, ◌≤◌, Bool, true, false, cond, ◌&&◌, refl, ap, ◌∙◌, arith, lit<}
use Rattle.std.proofs.Math.Nat.{mod-eq_of_lt, mod-add-mod, add-mod_right, mod-lt}
use Rattle.std.proofs.lemmas.Nat.{and_mask}
use Rattle.std.proofs.lemmas.Bool.Decides.{nat_tests}
use Rattle.abi_layout.specs.Prims.{width_size, in_width}
use Rattle.abi_layout.specs.declared.scalar.Integer.{Integer}
use Rattle.abi_layout.specs.declared.scalar.Stored.{Stored}
use Rattle.abi_layout.specs.declared.scalar.Stored.TheVariants as stored_as
use Rattle.abi_layout.specs.declared.scalar.Width.{Width}
use Rattle.abi_layout.specs.declared.scalar.Width.TheVariants as width
use Rattle.abi_pack.specs.Plain.{Plain, integer}
use Rattle.abi_pack.specs.Scalars.{full, half, digits_of, encoded, decoded, signed_integer}
use Rattle.abi_pack.proofs.Choice.{branch, and_first, and_both}

-- ---- how many numbers a width has

pub halves : (w : Width) → full w ≡ 2 * half w
halves width.One = refl
halves width.Two = refl
halves width.Four = refl
halves width.Eight = refl
halves width.Sixteen = refl

pub some_half : (w : Width) → 0 < half w
some_half width.One = lit< tt
some_half width.Two = lit< tt
some_half width.Four = lit< tt
some_half width.Eight = lit< tt
some_half width.Sixteen = lit< tt

pub full_power : (w : Width) → 2 ^ (8 * width_size w) ≡ full w
full_power width.One = refl
full_power width.Two = refl
full_power width.Four = refl
full_power width.Eight = refl
full_power width.Sixteen = refl

pub half_power : (w : Width) → 2 ^ (8 * width_size w - 1) ≡ half w
half_power width.One = refl
half_power width.Two = refl
half_power width.Four = refl
half_power width.Eight = refl
half_power width.Sixteen = refl

pub some_full : (w : Width) → 0 < full w
some_full w = let double = halves w in let some = some_half w in omega (arith, double, some)

-- the last digits of a number, also of one that was counted around 2 ^ 128
pub last_digits : (w : Width) (x most : ℕ) → most + 1 ≡ full w → bit_and x most ≡ x % full w
last_digits w x most e =
    let power = full_power w in
    let is : most ≡ 2 ^ (8 * width_size w) - 1 = omega (arith, e, power) in
    rw is (and_mask x (8 * width_size w) ∙ ap (λ n. x % n) power)

around : (w : Width) (x : ℕ) → x % 2 ^ 128 % full w ≡ x % full w
around width.One x = omega arith
around width.Two x = omega arith
around width.Four x = omega arith
around width.Eight x = omega arith
around width.Sixteen x = omega arith

pub wrapped_digits : (w : Width) (x most : ℕ) → most + 1 ≡ full w → bit_and (x % 2 ^ 128) most ≡ x % full w
wrapped_digits w x most e = last_digits w (x % 2 ^ 128) most e ∙ around w x

negated_around : (w : Width) (x m : ℕ) → (x + m) % 2 ^ 128 ≡ 0 → x % full w ≡ digits_of w m true
negated_around width.One x m h = omega arith
negated_around width.Two x m h = omega arith
negated_around width.Four x m h = omega arith
negated_around width.Eight x m h = omega arith
negated_around width.Sixteen x m h = omega arith

pub negated_digits : (w : Width) (x m most : ℕ) → most + 1 ≡ full w → (x + m) % 2 ^ 128 ≡ 0 → bit_and x most ≡ digits_of w m true
negated_digits w x m most e h = last_digits w x most e ∙ negated_around w x m h

less_around : (w : Width) (n o : ℕ) → o < full w → (n + (2 ^ 128 - o)) % full w ≡ (n + (full w - o)) % full w
less_around width.One n o h = omega arith
less_around width.Two n o h = omega arith
less_around width.Four n o h = omega arith
less_around width.Eight n o h = omega arith
less_around width.Sixteen n o h = refl

pub less_digits : (w : Width) (n o most : ℕ) → most + 1 ≡ full w → o < full w
    → bit_and ((n + (2 ^ 128 - o)) % 2 ^ 128) most ≡ (n + (full w - o)) % full w
less_digits w n o most e h = wrapped_digits w (n + (2 ^ 128 - o)) most e ∙ less_around w n o h

-- ---- the digits of an integer that has a place in the width

pub in_half : (signed : Bool) (w : Width) (m : ℕ) → in_width w signed m true ≡ true → (0 < m) × (m ≤ half w)
in_half true w m h = let power = half_power w in (grind (arith, nat_tests), grind (arith, nat_tests))
in_half false w m h = absurd (cc)

below_half : (signed : Bool) (w : Width) (m : ℕ) → in_width w signed m false ≡ true → (m < full w) × ((signed && nat_le (half w) m) ≡ false)
below_half true w m h =
    let power = half_power w in
    let double = halves w in
    let below : m < half w = grind (arith, nat_tests) in
    (omega (arith, double), grind (arith, nat_tests))
below_half false w m h = let power = full_power w in (grind (arith, nat_tests), refl)

pub digits_small : (w : Width) (m : ℕ) (negative : Bool) → digits_of w m negative < full w
digits_small w m true = mod-lt _ (some_full w)
digits_small w m false = mod-lt _ (some_full w)

pub placed_digits : (w : Width) (signed : Bool) (m : ℕ) (negative : Bool) → in_width w signed m negative ≡ true
    → digits_of w m negative ≡ cond negative (full w - m) m
placed_digits w signed m true h =
    let some = some_full w in
    let double = halves w in
    let is = in_half signed w m h in
    let small : m < full w = omega (arith, some, double, is.1) in
    ap (λ n. (full w - n) % full w) (mod-eq_of_lt small) ∙ mod-eq_of_lt (omega (arith, some, is.0))
placed_digits w signed m false h = mod-eq_of_lt (below_half signed w m h).0

told_low : (f : Integer) (d : ℕ) → (f.signed && nat_le (half f.width) d) ≡ false → signed_integer f d ≡ integer d false
told_low f d e = rw e refl

told_high : (f : Integer) (d : ℕ) → (f.signed && nat_le (half f.width) d) ≡ true → signed_integer f d ≡ integer (full f.width - d) true
told_high f d e = rw e refl

pub digits_told : (f : Integer) (m : ℕ) (negative : Bool) → in_width f.width f.signed m negative ≡ true
    → signed_integer f (digits_of f.width m negative) ≡ integer m negative
digits_told f m true h =
    let double = halves f.width in
    let is = in_half f.signed f.width m h in
    let high : nat_le (half f.width) (full f.width - m) ≡ true = grind (arith, nat_tests) in
    let back : full f.width - (full f.width - m) ≡ m = omega (arith, double, is.1) in
    ap (signed_integer f) (placed_digits f.width f.signed m true h)
    ∙ told_high f (full f.width - m) (and_both f.signed _ (and_first f.signed _ h) high) ∙ ap (λ n. integer n true) back
digits_told f m false h =
    ap (signed_integer f) (placed_digits f.width f.signed m false h) ∙ told_low f m (below_half f.signed f.width m h).1

-- the value is the integer of the width with these digits
pub record HasDigits (f : Integer) (d : ℕ) (v : Plain) : Type 0 where
  pub magnitude : ℕ
  pub negative : Bool
  pub is : v ≡ integer magnitude negative
  pub placed : in_width f.width f.signed magnitude negative ≡ true
  pub digits : digits_of f.width magnitude negative ≡ d

is_high : (signed : Bool) (w : Width) (d : ℕ) → d < full w → (signed && nat_le (half w) d) ≡ true
    → in_width w signed (full w - d) true ≡ true
is_high true w d s h = let power = half_power w in let double = halves w in rw power (grind (arith, nat_tests))
is_high false w d s h = absurd (cc)

is_low : (signed : Bool) (w : Width) (d : ℕ) → d < full w → (signed && nat_le (half w) d) ≡ false → in_width w signed d false ≡ true
is_low true w d s h = let power = half_power w in rw power (grind (arith, nat_tests))
is_low false w d s h = let power = full_power w in rw power (grind (arith, nat_tests))

has_digits : (f : Integer) (d m : ℕ) (negative : Bool) → in_width f.width f.signed m negative ≡ true
    → cond negative (full f.width - m) m ≡ d
    → HasDigits f d (integer m negative)
has_digits f d m negative placed e =
    record { magnitude = m; negative = negative; is = refl; placed = placed; digits = placed_digits f.width f.signed m negative placed ∙ e }

pub told_digits : (f : Integer) (d : ℕ) → d < full f.width → HasDigits f d (signed_integer f d)
told_digits f d small =
    branch (HasDigits f d) (f.signed && nat_le (half f.width) d) (integer (full f.width - d) true) (integer d false)
    (λ e. has_digits f d (full f.width - d) true (is_high f.signed f.width d small e) (omega arith))
    (λ e. has_digits f d d false (is_low f.signed f.width d small e) refl)

-- ---- the number that stands for digits

-- once around the end
turn : (end_ a b n : ℕ) → a + b ≡ end_ → n < end_ → ((n + a) % end_ + b) % end_ ≡ n
turn end_ a b n e h =
    let whole : n + a + b ≡ n + end_ = omega arith in
    mod-add-mod (n + a) end_ b ∙ ap (λ x. x % end_) whole ∙ add-mod_right n end_ ∙ mod-eq_of_lt h

pub encoded_small : (w : Width) (s : Stored) (d : ℕ) → d < full w → encoded w s d < full w
encoded_small w stored_as.Itself d h = h
encoded_small w stored_as.Complement d h = omega arith
encoded_small w (stored_as.Distance m n) d h = mod-lt _ (some_full w)

pub decoded_small : (w : Width) (s : Stored) (x : ℕ) → x < full w → decoded w s x < full w
decoded_small w stored_as.Itself x h = h
decoded_small w stored_as.Complement x h = omega arith
decoded_small w (stored_as.Distance m n) x h = mod-lt _ (some_full w)

pub decoded_encoded : (w : Width) (s : Stored) (d : ℕ) → d < full w → decoded w s (encoded w s d) ≡ d
decoded_encoded w stored_as.Itself d h = refl
decoded_encoded w stored_as.Complement d h = omega arith
decoded_encoded w (stored_as.Distance m n) d h =
    let o : ℕ = digits_of w m n in
    let less = digits_small w m n in turn (full w) (full w - o) o d (omega (arith, less)) h

pub encoded_decoded : (w : Width) (s : Stored) (x : ℕ) → x < full w → encoded w s (decoded w s x) ≡ x
encoded_decoded w stored_as.Itself x h = refl
encoded_decoded w stored_as.Complement x h = omega arith
encoded_decoded w (stored_as.Distance m n) x h =
    let o : ℕ = digits_of w m n in
    let less = digits_small w m n in turn (full w) o (full w - o) x (omega (arith, less)) h
