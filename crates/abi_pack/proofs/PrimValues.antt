-- A scalar's values and bytes, said of numbers, are those that are written.
use Rattle.std.specs.Prelude.{nat_lt}
use Rattle.std.proofs.Common.{◌≡◌, ◌↔◌, ℕ, zero, suc, ◌+◌, ◌-◌, ◌*◌, ◌%◌, ◌^◌, ◌<◌, List, [], ◌∷◌, ◌++◌, length, reverse, Bool, true, false, ◌==◌, not, ◌&&◌, ◌||◌, refl, ap, ◌∙◌, sym, subst, arith, lit<}
use Rattle.std.proofs.Math.Nat.{pow-succ', mod_self, mod-eq_of_lt}
use Rattle.std.proofs.lemmas.Bool.Decides.{nat_tests}
use Rattle.std.proofs.lemmas.List.{reverse-append}
use Rattle.std.specs.declared.cmp.Ordering.{Ordering}
use Rattle.std.specs.declared.cmp.Ordering.TheVariants as ordering
use Rattle.abi_num.specs.Target.{same_bool}
use Rattle.abi_num.specs.declared.target.Target.{Target}
use Rattle.abi_layout.specs.Prims.{width_size, in_width, row_of, pointer_row, is_never_null, is_form}
use Rattle.abi_layout.specs.declared.desc.PointerKind.{PointerKind}
use Rattle.abi_layout.specs.declared.prim.Form.{Form}
use Rattle.abi_layout.specs.declared.prim.Form.TheVariants as form
use Rattle.abi_layout.specs.declared.primitives.Row.{Row}
use Rattle.abi_layout.specs.declared.scalar.Scalar.{Scalar}
use Rattle.abi_layout.specs.declared.scalar.Scalar.TheVariants as scalars
use Rattle.abi_layout.specs.declared.scalar.Integer.{Integer}
use Rattle.abi_layout.specs.declared.scalar.Stored.{Stored}
use Rattle.abi_layout.specs.declared.scalar.Stored.TheVariants as stored_as
use Rattle.abi_layout.specs.declared.scalar.Width.{Width}
use Rattle.abi_pack.specs.ByteMap.{ByteMap, AreBytes, firsts}
use Rattle.abi_pack.specs.Plain.{Plain, unit, integer, boolean, order}
use Rattle.abi_pack.specs.Scalars.{full, digits_of, encoded, decoded, is_int, is_value, low_worth, ordered, order_byte, coded, number_in, is_legal, signed_integer, integer_shown, ShowsScalar}
use Rattle.abi_pack.specs.Values.{digits, left_out, in_range, is_of, counted, number, StandsFor, order_number, ShowsPrim}
use Rattle.abi_pack.proofs.Choice.{branch, and_first, and_second, and_both}
use Rattle.abi_pack.proofs.Coding.{in_half, halves, digits_small, placed_digits, digits_told, decoded_encoded, encoded_decoded}
use Rattle.abi_pack.proofs.Stored.{firsts_length, int_coded, legal_shown, number_shown, number_bound}

-- ---- the rows of the table

-- an integer that leaves out a number other than 0 has no bytes of 0 alone, and what it leaves out has a place in its width
abbrev pub IsRowStored : Stored → Integer → Type 0
IsRowStored stored_as.Itself g = Unit {0}
IsRowStored stored_as.Complement g = g.zero ≡ false
IsRowStored (stored_as.Distance magnitude negative) g = (g.zero ≡ false) × (in_width g.width g.signed magnitude negative ≡ true)

abbrev pub IsRowScalar : Scalar → Type 0
IsRowScalar (scalars.Int g) = IsRowStored g.stored g
IsRowScalar _ = Unit {0}

pub row_scalar : (target : Target) (fm : Form) → is_form target fm ≡ true → IsRowScalar (row_of target fm).scalar
row_scalar target (form.NonMax k) h = refl
row_scalar target (form.NonX k magnitude negative) h = (refl, h)
row_scalar target _ h = tt

pub pointer_scalar : (target : Target) (k : PointerKind) → IsRowScalar (pointer_row target k).scalar
pointer_scalar target k = branch {A = Row} (λ r. IsRowScalar r.scalar) (is_never_null k) _ _ (λ never. tt) (λ maybe. tt)

-- ---- which values

and_same : (p q r : Bool) → (p ≡ true → q ≡ r) → (p && q) ≡ (p && r)
and_same true q r h = h refl
and_same false q r h = refl

same_tests : (p q : Bool) → (p ≡ true → q ≡ true) → (q ≡ true → p ≡ true) → p ≡ q
same_tests true q there back = sym (there refl)
same_tests false true there back = back refl
same_tests false false there back = refl

bools_same : (a b : Bool) → same_bool a b ≡ true → a ≡ b
bools_same true b h = sym h
bools_same false true h = absurd (cc)
bools_same false false h = refl

bool_itself : (a : Bool) → same_bool a a ≡ true
bool_itself true = refl
bool_itself false = refl

abbrev magnitude_of : Plain → ℕ
magnitude_of (integer magnitude negative) = magnitude
magnitude_of _ = 0

abbrev is_negative : Plain → Bool
is_negative (integer magnitude negative) = negative
is_negative _ = false

-- the distance of a number above itself
no_way : (end_ d o : ℕ) → d ≡ o → o < end_ → (d + (end_ - o)) % end_ ≡ 0
no_way end_ d o e small = let whole : d + (end_ - o) ≡ end_ = omega arith in rw whole (mod_self end_)

at_no_way : (w : Width) (k d : ℕ) (p : Bool) → d < full w → encoded w (stored_as.Distance k p) d ≡ 0 → d ≡ digits_of w k p
at_no_way w k d p small e =
    let o : ℕ = digits_of w k p in
    let first : 0 + o ≡ o = omega arith in
    sym (decoded_encoded w (stored_as.Distance k p) d small) ∙ ap (decoded w (stored_as.Distance k p)) e
    ∙ ap (λ x. x % full w) first ∙ mod-eq_of_lt (digits_small w k p)

-- 0 is the distance of the number that is left out, and of no other
no_distance : (g : Integer) (m k : ℕ) (n p : Bool) → in_width g.width g.signed m n ≡ true → in_width g.width g.signed k p ≡ true
    → (m == k && same_bool n p) ≡ (encoded g.width (stored_as.Distance k p) (digits_of g.width m n) == 0)
no_distance g m k n p placed other =
    let d : ℕ = digits_of g.width m n in
    let o : ℕ = digits_of g.width k p in
    let x : ℕ = encoded g.width (stored_as.Distance k p) d in
    let small : d < full g.width = digits_small g.width m n in
    let below : o < full g.width = digits_small g.width k p in
    same_tests (m == k && same_bool n p) (x == 0)
    (λ h.
    let first : (m == k) ≡ true = and_first (m == k) _ h in
    let magnitude : m ≡ k = grind (arith, nat_tests) in
    let sign : n ≡ p = bools_same n p (and_second (m == k) _ h) in
    let same : d ≡ o = ap (λ j. digits_of g.width j n) magnitude ∙ ap (digits_of g.width k) sign in
    let none : x ≡ 0 = no_way (full g.width) d o same below in grind (arith, nat_tests))
    (λ h.
    let none : x ≡ 0 = grind (arith, nat_tests) in
    let same : d ≡ o = at_no_way g.width k d p small none in
    let told : integer m n ≡ integer k p = sym (digits_told g m n placed) ∙ ap (signed_integer g) same ∙ digits_told g k p other in
    let magnitude : m ≡ k = ap magnitude_of told in
    let sign : n ≡ p = ap is_negative told in
    and_both (m == k) _ (grind (arith, nat_tests)) (rw sign (bool_itself p)))

same_zero : (w : Width) (signed : Bool) (m : ℕ) (n : Bool) → in_width w signed m n ≡ true → (m == 0) ≡ (digits w m n == 0)
same_zero w signed m true placed =
    let is = in_half signed w m placed in
    let double = halves w in
    let some : 0 < full w - m = omega (arith, is.0, is.1, double) in grind (arith, nat_tests)
same_zero w signed m false placed = refl

left_itself : (has_zero : Bool) (m x : ℕ) → (m == 0) ≡ (x == 0) → not (not has_zero && m == 0) ≡ (has_zero || nat_lt 0 x)
left_itself true m x e = refl
left_itself false m x e = rw e (grind (arith, nat_tests))

left_complement : (has_zero : Bool) (d end_ : ℕ) → has_zero ≡ false → d < end_ → not (d + 1 == end_) ≡ (has_zero || nat_lt 0 (end_ - 1 - d))
left_complement true d end_ z small = absurd (cc)
left_complement false d end_ z small = grind (arith, nat_tests)

left_distance : (has_zero same : Bool) (x : ℕ) → has_zero ≡ false → same ≡ (x == 0) → not same ≡ (has_zero || nat_lt 0 x)
left_distance true same x z e = absurd (cc)
left_distance false same x z e = rw e (grind (arith, nat_tests))

-- 0 stands for what is left out
left_zero : (s : Stored) (g : Integer) (m : ℕ) (n : Bool) → IsRowStored s g → in_width g.width g.signed m n ≡ true
    → not (left_out s g.width g.zero m n) ≡ (g.zero || nat_lt 0 (encoded g.width s (digits_of g.width m n)))
left_zero stored_as.Itself g m n row placed =
    left_itself g.zero m (digits_of g.width m n) (same_zero g.width g.signed m n placed ∙ ap (λ d. d == 0) (sym (placed_digits g.width g.signed m n placed)))
left_zero stored_as.Complement g m n row placed =
    ap (λ d. not (d + 1 == full g.width)) (sym (placed_digits g.width g.signed m n placed))
    ∙ left_complement g.zero (digits_of g.width m n) (full g.width) row (digits_small g.width m n)
left_zero (stored_as.Distance k p) g m n row placed =
    left_distance g.zero (m == k && same_bool n p) (encoded g.width (stored_as.Distance k p) (digits_of g.width m n)) row.0
    (no_distance g m k n p placed row.1)

range_int : (g : Integer) (m : ℕ) (negative : Bool) → IsRowStored g.stored g → in_range g m negative ≡ is_int g m negative
range_int g m negative row = and_same (in_width g.width g.signed m negative) _ _ (left_zero g.stored g m negative row)

pub prim_fits : (c : Scalar) (v : Plain) → IsRowScalar c → is_of c v ≡ is_value c v
prim_fits scalars.Unit unit row = refl
prim_fits scalars.Bool (boolean b) row = refl
prim_fits scalars.Order (order o) row = refl
prim_fits (scalars.Int g) (integer m negative) row = range_int g m negative row
prim_fits scalars.Unit _ row = refl
prim_fits scalars.Bool _ row = refl
prim_fits scalars.Order _ row = refl
prim_fits (scalars.Int g) _ row = refl

-- ---- which bytes

worth_after : (xs : List ℕ) (x : ℕ) → low_worth (xs ++ x ∷ []) ≡ low_worth xs + x * 256 ^ length xs
worth_after [] x = omega arith
worth_after (y ∷ xs) x =
    let rest : low_worth (xs ++ x ∷ []) ≡ low_worth xs + x * 256 ^ length xs = worth_after xs x in
    let power : 256 ^ suc (length xs) ≡ 256 * 256 ^ length xs = pow-succ' 256 (length xs) in
    rw (rest, power) (grind arith)

low_number : (n m : ℕ) (f : ByteMap) → counted true n m f ≡ low_worth (firsts m f)
low_number n zero f = refl
low_number n (suc m) f = rw (worth_after (firsts m f) (f m), firsts_length m f, low_number n m f) refl

high_number : (n m d : ℕ) (f : ByteMap) → n ≡ m + d → counted false n m f ≡ 256 ^ d * low_worth (reverse (firsts m f))
high_number n zero d f e = omega arith
high_number n (suc m) d f e =
    let rest : counted false n m f ≡ 256 ^ suc d * low_worth (reverse (firsts m f)) = high_number n m (suc d) f (omega arith) in
    let power : 256 ^ suc d ≡ 256 * 256 ^ d = pow-succ' 256 d in
    let place : n - (m + 1) ≡ d = omega arith in
    let turned : reverse (firsts m f ++ f m ∷ []) ≡ f m ∷ reverse (firsts m f) = reverse-append (firsts m f) (f m ∷ []) in
    rw (rest, power, place, turned) (grind arith)

same_number : (g : Integer) (f : ByteMap) → number g.little (width_size g.width) f ≡ number_in g f
same_number g f = either g.little (width_size g.width) f
  where
    either : (little : Bool) (n : ℕ) (f : ByteMap) → number little n f ≡ low_worth (ordered little (firsts n f))
    either true n f = low_number n n f
    either false n f = let whole : counted false n n f ≡ 256 ^ 0 * low_worth (reverse (firsts n f)) = high_number n n 0 f (omega arith) in omega (arith, whole)

-- what the number in the bytes stands for
stands : (s : Stored) (g : Integer) (x d : ℕ) → IsRowStored s g → x < full g.width → d < full g.width
    → StandsFor s g.width x d ↔ (x ≡ encoded g.width s d)
stands stored_as.Itself g x d row small below = (λ h. h, λ h. h)
stands stored_as.Complement g x d row small below = (λ h. omega arith, λ h. omega arith)
stands (stored_as.Distance m n) g x d row small below =
    let w : Width = g.width in
    let s : Stored = stored_as.Distance m n in
    let same : decoded w s x ≡ (x + digits w m n) % full w = ap (λ o. (x + o) % full w) (placed_digits w g.signed m n row.1) in (
      λ h. sym (encoded_decoded w s x small) ∙ ap (encoded w s) (same ∙ h),
      λ h. sym same ∙ ap (decoded w s) h ∙ decoded_encoded w s d below,
    )

-- bytes that hold the number which stands for an integer show it
shown_int : (g : Integer) (m : ℕ) (negative : Bool) (f : ByteMap) → AreBytes f → is_int g m negative ≡ true
    → number_in g f ≡ coded g m negative
    → ShowsScalar (scalars.Int g) (integer m negative) f
shown_int g m negative f bytes is e =
    let c = int_coded g m negative is in
    let legal : is_legal (scalars.Int g) f ≡ true = rw e c.legal in
    subst (λ v. ShowsScalar (scalars.Int g) v f) (ap (integer_shown g) e ∙ c.told) (legal_shown (scalars.Int g) f bytes legal)

other_digits : (s : Stored) (w : Width) (x y d e : ℕ) → x ≡ y → d ≡ e → StandsFor s w x d → StandsFor s w y e
other_digits s w x y d e ex ed h = subst (StandsFor s w y) ed (subst (λ z. StandsFor s w z d) ex h)

int_shows : (g : Integer) (m : ℕ) (negative : Bool) (f : ByteMap) → IsRowStored g.stored g → AreBytes f
    → ShowsPrim (scalars.Int g) (integer m negative) f ↔ ShowsScalar (scalars.Int g) (integer m negative) f
int_shows g m negative f row bytes =
    let w : Width = g.width in
    let d : ℕ = digits_of w m negative in
    let x : ℕ = number_in g f in
    let there : number g.little (width_size w) f ≡ x = same_number g f in
    let said : is_int g m negative ≡ true → d ≡ digits w m negative =
    λ is. placed_digits w g.signed m negative (and_first (in_width w g.signed m negative) _ is) in
    let same : StandsFor g.stored w x d ↔ (x ≡ coded g m negative) =
    stands g.stored g x d row (number_bound g f bytes) (digits_small w m negative) in (
      λ h. let is : is_int g m negative ≡ true = sym (range_int g m negative row) ∙ h.0 in
          shown_int g m negative f bytes is (same.0 (other_digits g.stored w _ x _ d there (sym (said is)) h.1)),
      λ h. (range_int g m negative row ∙ h.value, other_digits g.stored w x _ d _ (sym there) (said h.value) (same.1 (number_shown g m negative f h))),
    )

order_same : (o : Ordering) → order_number o ≡ order_byte o
order_same ordering.Less = refl
order_same ordering.Equal = refl
order_same ordering.Greater = refl

pub prim_shows : (c : Scalar) (v : Plain) (f : ByteMap) → IsRowScalar c → AreBytes f → ShowsPrim c v f ↔ ShowsScalar c v f
prim_shows scalars.Unit unit f row bytes = (λ h. record { value = refl; same = λ i lt. absurd (omega arith) }, λ h. tt)
prim_shows scalars.Bool (boolean b) f row bytes = (
  λ h. record { value = refl; same = λ i lt. let first : i ≡ 0 = omega arith in rw first h },
  λ h. h.same 0 (lit< tt),
)
prim_shows scalars.Order (order o) f row bytes = (
  λ h. record { value = refl; same = λ i lt. let first : i ≡ 0 = omega arith in rw first (h ∙ order_same o) },
  λ h. h.same 0 (lit< tt) ∙ sym (order_same o),
)
prim_shows (scalars.Int g) (integer m negative) f row bytes = int_shows g m negative f row bytes
prim_shows scalars.Unit v f row bytes = (λ h. absurd h, λ h. absurd (let is = h.value in cc))
prim_shows scalars.Bool v f row bytes = (λ h. absurd h, λ h. absurd (let is = h.value in cc))
prim_shows scalars.Order v f row bytes = (λ h. absurd h, λ h. absurd (let is = h.value in cc))
prim_shows (scalars.Int g) v f row bytes = (λ h. absurd h, λ h. absurd (let is = h.value in cc))
