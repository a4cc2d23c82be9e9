-- Small facts on truth values.
use Rattle.std.proofs.Common.{◌≡◌, ℕ, ◌+◌, ◌<◌, ◌≤◌, ◌⊎◌, inl, inr, Bool, true, false, cond, ◌&&◌, ◌||◌, refl, arith}
use Rattle.std.specs.Prelude.{nat_lt}
use Rattle.std.proofs.lemmas.Bool.{cases_lt}
use Rattle.std.proofs.lemmas.Bool.Decides.{nat_tests}

-- what holds at either answer of a test holds of the choice
pub branch : {A : Type 0} (P : A → Type 0) (t : Bool) (u v : A) → (t ≡ true → P u) → (t ≡ false → P v) → P (cond t u v)
branch P true u v yes_ no_ = yes_ refl
branch P false u v yes_ no_ = no_ refl

pub either_way : (p q : Bool) {X : Type 0} → (p || q) ≡ true → (p ≡ true → X) → (q ≡ true → X) → X
either_way true q h left right = left refl
either_way false q h left right = right h

pub neither : (p q : Bool) → p ≡ false → q ≡ false → (p || q) ≡ false
neither true q a b = a
neither false q a b = b

pub neither_first : (p q : Bool) → (p || q) ≡ false → p ≡ false
neither_first true q h = h
neither_first false q h = refl

pub neither_second : (p q : Bool) → (p || q) ≡ false → q ≡ false
neither_second true q h = absurd (cc)
neither_second false q h = h

pub and_first : (p q : Bool) → (p && q) ≡ true → p ≡ true
and_first true q h = refl
and_first false q h = h

pub and_second : (p q : Bool) → (p && q) ≡ true → q ≡ true
and_second true q h = h
and_second false q h = absurd (cc)

pub and_both : (p q : Bool) → p ≡ true → q ≡ true → (p && q) ≡ true
and_both true q a b = b
and_both false q a b = a

pub not_true : (p : Bool) → p ≡ true → p ≡ false → ⊥
not_true p a b = absurd (cc)

pub two_truths : (p : Bool) → (p ≡ true) ⊎ (p ≡ false)
two_truths true = inl refl
two_truths false = inr refl

-- the three places of a field: in the gap, in the field, behind it
pub in_gap : {A : Type 0} (i gap n : ℕ) (x y z : A) → i < gap → cond (nat_lt i gap) x (cond (nat_lt i (gap + n)) y z) ≡ x
in_gap i gap n x y z h = grind (arith, nat_tests)

pub in_field : {A : Type 0} (i gap n : ℕ) (x y z : A) → gap ≤ i → i < gap + n → cond (nat_lt i gap) x (cond (nat_lt i (gap + n)) y z) ≡ y
in_field i gap n x y z h g = grind (arith, nat_tests)

pub behind_field : {A : Type 0} (i gap n : ℕ) (x y z : A) → gap + n ≤ i → cond (nat_lt i gap) x (cond (nat_lt i (gap + n)) y z) ≡ z
behind_field i gap n x y z h = grind (arith, nat_tests)

in_or_behind : (i bound : ℕ) {X : Type 0} → (i < bound) ⊎ (bound ≤ i) → (i < bound → X) → (bound ≤ i → X) → X
in_or_behind i bound (inl h) inside behind = inside h
in_or_behind i bound (inr h) inside behind = behind h

pub three_places : (i gap n : ℕ) {X : Type 0} → (i < gap → X) → (gap ≤ i → i < gap + n → X) → (gap + n ≤ i → X) → X
three_places i gap n below here above =
    in_or_behind i gap (cases_lt i gap) below (λ h. in_or_behind i (gap + n) (cases_lt i (gap + n)) (here h) above)

pub and_no : (p q : Bool) → q ≡ false → (p && q) ≡ false
and_no true q h = h
and_no false q h = refl

pub or_left : (p q : Bool) → p ≡ true → (p || q) ≡ true
or_left true q h = refl
or_left false q h = absurd (cc)

pub or_right : (p q : Bool) → q ≡ true → (p || q) ≡ true
or_right true q h = refl
or_right false q h = h
