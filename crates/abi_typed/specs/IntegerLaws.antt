-- What integers of a fixed width owe to their primitives, on every target.
use Rattle.std.specs.Prelude.{unsigned_abs}
use Rattle.std.specs.Int.{is_negative}
use Rattle.std.proofs.Common.{◌≡◌, ◌↔◌, ℕ, zero, ◌+◌, ◌-◌, ◌*◌, ◌^◌, ℤ, pos, negsuc, Bool, true, false, ◌&&◌, not, ◌==◌, refl, ap, ◌∙◌, sym, arith}
use Rattle.std.proofs.lemmas.Bool.{and_parts, and_from}
use Rattle.std.proofs.lemmas.Bool.Decides.{nat_tests}
use Rattle.abi_num.specs.Target.{same_bool}
use Rattle.abi_num.specs.declared.target.Target.{Target}
use Rattle.abi_det.specs.Offers.{Rules}
use Rattle.abi_layout.specs.Prims.{width_size, in_width, scalar_of, prim_row, plain_integer, restricted, row_frame}
use Rattle.abi_layout.specs.Trees.{prim}
use Rattle.abi_layout.specs.declared.prim.Primitive.{Primitive}
use Rattle.abi_layout.specs.declared.primitives.Row.{Row}
use Rattle.abi_layout.specs.declared.scalar.Scalar.{Scalar}
use Rattle.abi_layout.specs.declared.scalar.Scalar.TheVariants as scalars
use Rattle.abi_layout.specs.declared.scalar.Stored.{Stored}
use Rattle.abi_layout.specs.declared.scalar.Stored.TheVariants as stored
use Rattle.abi_layout.specs.declared.scalar.Width.{Width}
use Rattle.abi_layout.specs.declared.scalar.Width.TheVariants as width
use Rattle.abi_pack.specs.Plain.{Plain, integer}
use Rattle.abi_pack.specs.Values.{is_of, left_out, fits}
use Rattle.abi_typed.specs.Integers.{kind_of, primitive_of}
use Rattle.abi_typed.specs.Stable.{IsFixed, Fits, Indirections}

not_below : (a : ℕ) → is_negative (pos a) ≡ false
not_below a = grind (arith, nat_tests)

pub signed_same : (x y : ℤ) → unsigned_abs x ≡ unsigned_abs y → is_negative x ≡ is_negative y → x ≡ y
signed_same (pos a) (pos b) e f = ap pos e
signed_same (pos a) (negsuc b) e f = let h : false ≡ true = sym (not_below a) ∙ f in absurd (cc)
signed_same (negsuc a) (pos b) e f = let h : true ≡ false = f ∙ not_below b in absurd (cc)
signed_same (negsuc a) (negsuc b) e f = ap negsuc (omega arith)

-- ---- tests

both : (p q : Bool) → p ≡ true → q ≡ false → (p && not q) ≡ true
both p q h k = rw h (rw k refl)

other_than_true : (p : Bool) → (p ≡ true → ⊥) → p ≡ false
other_than_true true h = absurd (h refl)
other_than_true false h = refl

same_number : (m n : ℕ) → (m == n) ≡ true → m ≡ n
same_number m n h = grind (arith, nat_tests)

number_itself : (n : ℕ) → (n == n) ≡ true
number_itself n = grind (arith, nat_tests)

same_truth : (p q : Bool) → same_bool p q ≡ true → p ≡ q
same_truth true q h = sym h
same_truth false true h = absurd (cc)
same_truth false false h = refl

truth_itself : (p : Bool) → same_bool p p ≡ true
truth_itself true = refl
truth_itself false = refl

-- ---- the rows

-- an integer of this width and sign, in the byte order of a target
abbrev scalar_with : Width → Bool → Bool → Stored → Bool → Scalar
scalar_with w signed has_zero how little =
    scalars.Int (record { width = w; signed = signed; zero = has_zero; little = little; stored = how })

-- no value depends on the byte order
order_free : (w : Width) (signed has_zero : Bool) (how : Stored) (little other : Bool) (v : Plain)
    → is_of (scalar_with w signed has_zero how little) v ≡ is_of (scalar_with w signed has_zero how other) v
order_free w signed has_zero how little other (integer magnitude negative) = refl
order_free w signed has_zero how little other _ = refl

pub whole_row : (target : Target) (w : Width) (signed : Bool)
    → prim_row target (primitive_of (kind_of w signed)) ≡ plain_integer target (kind_of w signed)
whole_row target width.One false = refl
whole_row target width.Two false = refl
whole_row target width.Four false = refl
whole_row target width.Eight false = refl
whole_row target width.Sixteen false = refl
whole_row target width.One true = refl
whole_row target width.Two true = refl
whole_row target width.Four true = refl
whole_row target width.Eight true = refl
whole_row target width.Sixteen true = refl

whole_scalar : (target : Target) (w : Width) (signed : Bool)
    → (plain_integer target (kind_of w signed)).scalar ≡ scalar_with w signed true stored.Itself target.little
whole_scalar target width.One false = refl
whole_scalar target width.Two false = refl
whole_scalar target width.Four false = refl
whole_scalar target width.Eight false = refl
whole_scalar target width.Sixteen false = refl
whole_scalar target width.One true = refl
whole_scalar target width.Two true = refl
whole_scalar target width.Four true = refl
whole_scalar target width.Eight true = refl
whole_scalar target width.Sixteen true = refl

pub restricted_scalar : (target : Target) (w : Width) (signed : Bool) (how : Stored)
    → (restricted target (kind_of w signed) how).scalar ≡ scalar_with w signed false how target.little
restricted_scalar target width.One false how = refl
restricted_scalar target width.Two false how = refl
restricted_scalar target width.Four false how = refl
restricted_scalar target width.Eight false how = refl
restricted_scalar target width.Sixteen false how = refl
restricted_scalar target width.One true how = refl
restricted_scalar target width.Two true how = refl
restricted_scalar target width.Four true how = refl
restricted_scalar target width.Eight true how = refl
restricted_scalar target width.Sixteen true how = refl

-- ---- a primitive with these rows

module _ (p : Primitive) (w : Width) (signed has_zero : Bool) (how : Stored) where
  -- on every target it is such an integer
  abbrev pub IsSuch : Type 0
  IsSuch = (target : Target) → scalar_of target p ≡ scalar_with w signed has_zero how target.little

  pub such_fits : IsSuch → (rules : Rules) (target : Target) (v : Plain)
      → fits rules target (prim p) v ≡ is_of (scalar_with w signed has_zero how true) v
  such_fits row rules target v =
      ap (λ s. is_of s v) (row target) ∙ order_free w signed has_zero how target.little true v

  pub such_fixed : IsSuch → IsFixed (prim p)
  such_fixed row rules elsewhere target other v = such_fits row rules target v ∙ sym (such_fits row elsewhere other v)

pub is_whole : (w : Width) (signed : Bool) → IsSuch (primitive_of (kind_of w signed)) w signed true stored.Itself
is_whole w signed target = ap (λ (r : Row). r.scalar) (whole_row target w signed) ∙ whole_scalar target w signed

pub whole_fixed : (w : Width) (signed : Bool) → IsFixed (prim (primitive_of (kind_of w signed)))
whole_fixed w signed = such_fixed (primitive_of (kind_of w signed)) w signed true stored.Itself (is_whole w signed)

and_true : (b : Bool) → (b && true) ≡ b
and_true true = refl
and_true false = refl

pub whole_fits : (w : Width) (signed : Bool) (rules : Rules) (target : Target) (magnitude : ℕ) (negative : Bool)
    → fits rules target (prim (primitive_of (kind_of w signed))) (integer magnitude negative)
    ≡ in_width w signed magnitude negative
whole_fits w signed rules target magnitude negative =
    such_fits (primitive_of (kind_of w signed)) w signed true stored.Itself (is_whole w signed) rules target (integer magnitude negative)
    ∙ and_true (in_width w signed magnitude negative)

-- ---- no pointers

pub no_pointers : (p : Primitive) → ((target : Target) → (prim_row target p).indirections ≡ false) → Indirections (prim p) false
unfolding row_frame
no_pointers p row rules target = row target

pub whole_direct : (w : Width) (signed : Bool) → Indirections (prim (primitive_of (kind_of w signed))) false
whole_direct w signed =
    no_pointers (primitive_of (kind_of w signed)) (λ target. ap (λ (r : Row). r.indirections) (whole_row target w signed))

-- ---- integers with one forbidden number

module _ (p : Primitive) (w : Width) (signed : Bool) (how : Stored) where
  -- the primitive is such an integer on every target
  abbrev pub IsRestricted : Type 0
  IsRestricted = (target : Target) → prim_row target p ≡ restricted target (kind_of w signed) how

  is_such : IsRestricted → IsSuch p w signed false how
  is_such row target = ap (λ (r : Row). r.scalar) (row target) ∙ restricted_scalar target w signed how

  pub restricted_fixed : IsRestricted → IsFixed (prim p)
  restricted_fixed row = such_fixed p w signed false how (is_such row)

  pub restricted_direct : IsRestricted → Indirections (prim p) false
  restricted_direct row = no_pointers p (λ target. ap (λ (r : Row). r.indirections) (row target))

  pub restricted_fits : IsRestricted → (rules : Rules) (target : Target) (magnitude : ℕ) (negative : Bool)
      → fits rules target (prim p) (integer magnitude negative)
      ≡ (in_width w signed magnitude negative && not (left_out how w false magnitude negative))
  restricted_fits row rules target magnitude negative = such_fits p w signed false how (is_such row) rules target (integer magnitude negative)

  -- it fits where it has a place and is not the forbidden one
  pub restricted_fitting : IsRestricted → (magnitude : ℕ) (negative : Bool) (Forbidden : Type 0)
      → ((left_out how w false magnitude negative ≡ true) ↔ Forbidden)
      → in_width w signed magnitude negative ≡ true → (Forbidden → ⊥) → Fits (prim p) (integer magnitude negative)
  restricted_fitting row magnitude negative Forbidden told placed allowed rules target =
      restricted_fits row rules target magnitude negative ∙ both _ _ placed (other_than_true _ (λ h. allowed (told.0 h)))

-- ---- which number is left out

one_more : (n x : ℕ) → ((x + 1 == n + 1) ≡ true) ↔ (x ≡ n)
one_more n x = (λ h. grind (arith, nat_tests), λ h. grind (arith, nat_tests))

-- the greatest number of a width in bits
pub greatest_left_out : (w : Width) (x : ℕ) → (left_out stored.Complement w false x false ≡ true) ↔ (x ≡ 2 ^ (8 * width_size w) - 1)
greatest_left_out width.One x = one_more (2 ^ 8 - 1) x
greatest_left_out width.Two x = one_more (2 ^ 16 - 1) x
greatest_left_out width.Four x = one_more (2 ^ 32 - 1) x
greatest_left_out width.Eight x = one_more (2 ^ 64 - 1) x
greatest_left_out width.Sixteen x = one_more (2 ^ 128 - 1) x

pub number_left_out : (w : Width) (f x : ℕ) → (left_out (stored.Distance f false) w false x false ≡ true) ↔ (x ≡ f)
number_left_out w f x = (λ h. grind (arith, nat_tests), λ h. grind (arith, nat_tests))

pub signed_left_out : (w : Width) (f x : ℤ)
    → (left_out (stored.Distance (unsigned_abs f) (is_negative f)) w false (unsigned_abs x) (is_negative x) ≡ true) ↔ (x ≡ f)
signed_left_out w f x = (
  λ h. signed_same x f (same_number (unsigned_abs x) (unsigned_abs f) (and_parts _ _ h).0) (same_truth (is_negative x) (is_negative f) (and_parts _ _ h).1),
  λ h. rw h (and_from _ _ (number_itself (unsigned_abs f)) (truth_itself (is_negative f))),
)
