-- From what the functions compute to what the calls of a plan promise. q is the plan as it is kept, p as contracts see it.
use Rattle.std.specs.Prelude.{nat_lt, min}
use Rattle.std.proofs.Common.{◌≡◌, ◌↔◌, ℕ, ◌+◌, ◌≤◌, List, None, length, Bool, true, false, refl, ap, ◌∙◌, sym, subst, inl, inr, arith}
use Rattle.std.proofs.lemmas.Bool.{cases_lt}
use Rattle.std.proofs.lemmas.Bool.Decides.{nat_tests}
use Rattle.abi_num.specs.declared.target.Target.{Target}
use Rattle.abi_det.specs.Offers.{Rules}
use Rattle.abi_layout.specs.Faults.{desc_fault}
use Rattle.abi_layout.specs.Frames.{written_frame}
use Rattle.abi_layout.specs.PartView.{shape}
use Rattle.abi_layout.specs.Plans.{shape_of, IsNamed}
use Rattle.abi_layout.specs.Shape.{Shape, size}
use Rattle.abi_layout.specs.Trees.{Tree}
use Rattle.abi_pack.specs.ByteMap.{ByteMap, AreBytes, seen_from, bytes_of}
use Rattle.abi_pack.specs.Packed.{packed}
use Rattle.abi_pack.specs.Packing.{Packing, IsPlanOf, OfPlan, IsSomePlan}
use Rattle.abi_pack.specs.Plain.{Plain}
use Rattle.abi_pack.specs.PlanShape.{IsPlanShape}
use Rattle.abi_pack.specs.Counting.{counted, values_in}
use Rattle.abi_pack.specs.Reading.{IsShown, TellsMany}
use Rattle.abi_pack.specs.Shows as of_shape
use Rattle.abi_pack.specs.ValueShown.{is_shown, value_shown}
use Rattle.abi_pack.specs.Values.{fits, Shows, IsLong, IsImageOf}
use Rattle.abi_pack.proofs.Lawful.{faultless_covered, faultless_small, faultless_fits, faultless_shows, packed_image}
use Rattle.abi_pack.proofs.ShownValues.{shown_value, shown_where, told_where}
use Rattle.abi_pack.proofs.TreeValues.{from_zero, same_size}

-- the part of a description without a fault keeps what every plan's keeps
pub plan_kept : (rules : Rules) (target : Target) (t : Tree) (s : Shape) → desc_fault rules target t ≡ None → s ≡ shape_of rules target t → IsNamed s → IsPlanShape s
plan_kept rules target t s none is named =
    let small : (written_frame rules target t).size ≤ 1048576 = faultless_small rules target t none in
    let same = same_size rules target t in
    record { sound = rw is (faultless_covered rules target t none).sound; named = named; small = rw is (omega (arith, small, same)) }

pub plan_fits : (q p : Packing) (v : Plain) (r : Bool) → q ≡ p → r ≡ of_shape.fits (shape q.part) v → OfPlan p (λ rules target t. r ≡ fits rules target t v)
plan_fits q p v r e is =
    subst (λ x. OfPlan x (λ rules target t. r ≡ fits rules target t v)) e
    (λ rules target t of. is ∙ ap (λ s. of_shape.fits s v) of.part ∙ sym (faultless_fits rules target t v of.faultless))

-- a value that fits may be written
pub plan_value : (q p : Packing) (v : Plain) → q ≡ p → IsSomePlan q → OfPlan p (λ rules target t. fits rules target t v ≡ true) → of_shape.fits (shape q.part) v ≡ true
plan_value q p v e some fit =
    let fit_ : OfPlan q (λ rules target t. fits rules target t v ≡ true) = subst (λ x. OfPlan x (λ rules target t. fits rules target t v ≡ true)) (sym e) fit in
    let of = some.1.1.1 in
    ap (λ s. of_shape.fits s v) of.part ∙ sym (faultless_fits some.0 some.1.0 some.1.1.0 v of.faultless) ∙ fit_ some.0 some.1.0 some.1.1.0 of

-- there is room where there are as many bytes as the layout has
pub plan_room : (q p : Packing) (n : ℕ) → q ≡ p → IsSomePlan q → n ≡ p.layout.size → n ≡ size (shape q.part)
plan_room q p n e some long =
    let of = some.1.1.1 in
    long ∙ ap (λ (x : Packing). x.layout.size) (sym e) ∙ ap (λ f. f.size) of.layout ∙ sym (same_size some.0 some.1.0 some.1.1.0) ∙ sym (ap size of.part)

pub plan_written : (q p : Packing) (v : Plain) (out : List ℕ) → q ≡ p → OfPlan p (λ rules target t. fits rules target t v ≡ true) → out ≡ packed (shape q.part) v
    → OfPlan p (λ rules target t. IsImageOf rules target t v out)
plan_written q p v out e fit is rules target t of =
    let same : out ≡ packed (shape_of rules target t) v = is ∙ ap (λ (x : Packing). packed (shape x.part) v) e ∙ ap (λ s. packed s v) of.part in
    rw same (packed_image rules target t v of.faultless (fit rules target t of))

plan_length : (q p : Packing) (bs : List ℕ) (rules : Rules) (target : Target) (t : Tree) → q ≡ p → IsPlanOf p rules target t → (length bs ≡ size (shape q.part)) ↔ IsLong rules target t bs
plan_length q p bs rules target t e of =
    let n : size (shape q.part) ≡ (written_frame rules target t).size = ap (λ (x : Packing). size (shape x.part)) e ∙ ap size of.part ∙ same_size rules target t in
    (λ h. h ∙ n, λ h. h ∙ sym n)

plan_shows : (q p : Packing) (v : Plain) (f : ByteMap) (rules : Rules) (target : Target) (t : Tree) → q ≡ p → IsPlanOf p rules target t → AreBytes f
    → of_shape.Shows (shape q.part) v f ↔ Shows rules target t v f
plan_shows q p v f rules target t e of bytes =
    let is : shape q.part ≡ shape_of rules target t = ap (λ (x : Packing). shape x.part) e ∙ of.part in
    let same = faultless_shows rules target t v f of.faultless bytes in
    (λ h. same.1 (subst (λ s. of_shape.Shows s v f) is h), λ h. subst (λ s. of_shape.Shows s v f) (sym is) (same.0 h))

-- ---- reading

pub plan_read : (q p : Packing) (v : Plain) (bs : List ℕ) → q ≡ p → AreBytes (bytes_of bs) → length bs ≡ size (shape q.part) → true ≡ is_shown (shape q.part) (seen_from 0 (bytes_of bs))
    → v ≡ value_shown (shape q.part) (seen_from 0 (bytes_of bs)) → OfPlan p (λ rules target t. IsLong rules target t bs × Shows rules target t v (bytes_of bs))
plan_read q p v bs e bytes long shown is rules target t of =
    let f : ByteMap = bytes_of bs in
    let there : is_shown (shape q.part) f ≡ true = rw (from_zero f) at (sym shown) in
    let value : v ≡ value_shown (shape q.part) f = rw (from_zero f) at is in
    ((plan_length q p bs rules target t e of).0 long, (plan_shows q p v f rules target t e of bytes).0 (rw value (shown_value (shape q.part) f bytes there)))

pub plan_shown : (q p : Packing) (bs : List ℕ) → q ≡ p → AreBytes (bytes_of bs) → length bs ≡ size (shape q.part) → true ≡ is_shown (shape q.part) (seen_from 0 (bytes_of bs))
    → OfPlan p (λ rules target t. IsShown rules target t bs)
plan_shown q p bs e bytes long shown rules target t of =
    let f : ByteMap = bytes_of bs in
    let there : is_shown (shape q.part) f ≡ true = rw (from_zero f) at (sym shown) in
    let v : Plain = value_shown (shape q.part) f in
    ((plan_length q p bs rules target t e of).0 long, (v, (plan_shows q p v f rules target t e of bytes).0 (shown_value (shape q.part) f bytes there)))

pub plan_long : (q p : Packing) (bs : List ℕ) → q ≡ p → length bs ≡ size (shape q.part) → OfPlan p (λ rules target t. IsLong rules target t bs)
plan_long q p bs e long rules target t of = (plan_length q p bs rules target t e of).0 long

past_least : (n : ℕ) → nat_lt 8388608 (min (0 + n) 8388609) ≡ nat_lt 8388608 n
past_least n = elim (cases_lt 8388608 n) [
  | inl lt ↦ grind (arith, nat_tests)
  | inr le ↦ grind (arith, nat_tests)
]

-- what is counted tells whether there are too many values in the one that is shown
pub plan_many : (q p : Packing) (bs : List ℕ) (n : ℕ) (r : Bool) → q ≡ p → AreBytes (bytes_of bs) → n ≡ counted 0 (shape q.part) (seen_from 0 (bytes_of bs)) → r ≡ nat_lt 8388608 n
    → OfPlan p (λ rules target t. TellsMany rules target t bs r)
plan_many q p bs n r e bytes is told rules target t of v shown =
    let f : ByteMap = bytes_of bs in
    let value : v ≡ value_shown (shape q.part) f = told_where (shape q.part) v f ((plan_shows q p v f rules target t e of bytes).1 shown) in
    let number : n ≡ min (0 + values_in v) 8388609 = is ∙ rw (from_zero f, value) refl in
    told ∙ ap (nat_lt 8388608) number ∙ past_least (values_in v)

pub plan_other_length : (q p : Packing) (bs : List ℕ) → q ≡ p → (length bs ≡ size (shape q.part) → ⊥) → OfPlan p (λ rules target t. IsLong rules target t bs → ⊥)
plan_other_length q p bs e other rules target t of long = other ((plan_length q p bs rules target t e of).1 long)

pub plan_none : (q p : Packing) (bs : List ℕ) → q ≡ p → AreBytes (bytes_of bs) → length bs ≡ size (shape q.part) → false ≡ is_shown (shape q.part) (seen_from 0 (bytes_of bs))
    → OfPlan p (λ rules target t. IsLong rules target t bs × ((v : Plain) → Shows rules target t v (bytes_of bs) → ⊥))
plan_none q p bs e bytes long none rules target t of = (
  (plan_length q p bs rules target t e of).0 long,
  λ v shown.
      let some : is_shown (shape q.part) (bytes_of bs) ≡ true = shown_where (shape q.part) v (bytes_of bs) ((plan_shows q p v (bytes_of bs) rules target t e of bytes).1 shown) in
      let lost : is_shown (shape q.part) (bytes_of bs) ≡ false = rw (from_zero (bytes_of bs)) at (sym none) in absurd (cc),
)

-- where a value is shown, the bytes are told to show one
pub plan_where : (q p : Packing) (bs : List ℕ) (r : Bool) → q ≡ p → AreBytes (bytes_of bs) → r ≡ is_shown (shape q.part) (seen_from 0 (bytes_of bs))
    → OfPlan p (λ rules target t. IsShown rules target t bs → r ≡ true)
plan_where q p bs r e bytes is rules target t of shown =
    let f : ByteMap = bytes_of bs in
    is ∙ ap (is_shown (shape q.part)) (from_zero f)
    ∙ shown_where (shape q.part) shown.1.0 f ((plan_shows q p shown.1.0 f rules target t e of bytes).1 shown.1.1)
