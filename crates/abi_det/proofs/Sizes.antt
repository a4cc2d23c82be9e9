-- Alignments, and the size of a union.
use lib.Count.{ones_step}
use Rattle.std.proofs.Common.{◌≡◌, ℕ, zero, suc, ◌+◌, ◌-◌, ◌*◌, ◌/◌, ◌%◌, ◌^◌, ◌<◌, ◌≤◌, max, true, ◌&&◌, eqb, leb, refl, sym, ◌∙◌, inl, inr, arith}
use Rattle.std.specs.Int.{is_power_of_two, next_multiple_of}
use Rattle.std.specs.Int.RustNames.{count_ones}
use Rattle.std.proofs.lemmas.Nat.{zero_from_ones, ones_le_self, pow_below, pow-add}
use Rattle.std.proofs.lemmas.Bool.{and_parts, and_from, leb-true, le-leb, eqb-true, eq-eqb, cases_lt, cases_eq}
use Rattle.std.proofs.Math.Nat.{add-zero, add-mod_right, div-add-mod, mul-le-mul_right, mod-lt, mod_self, mod-eq_of_lt, mul-mod_right, pow-suc, suc-mul, mul_comm}
use Rattle.abi_num.specs.Alignment.{is_alignment, IsAlignment}
use Rattle.std.specs.List.{list_all}
use Rattle.abi_bits.specs.Pairs.{are_below}
use Rattle.abi_bits.specs.Forbidden.{is_solid_item}
use Rattle.abi_det.specs.Frame.{Frame, IsLawful, forbids}
use Rattle.abi_det.specs.Roles.{sum_align, union_size}
use Rattle.abi_det.specs.Laws.{UnionLaw, RoundLaw}
use Rattle.abi_det.proofs.Lawful.{parts, positive}

one_bit : (d n : ℕ) → n ≤ d → count_ones n ≡ 1 → (k : ℕ) × (n ≡ 2 ^ k)
one_bit zero n h e = absurd (omega (arith, ones_le_self n))
one_bit (suc d) n h e = elim (cases_eq (n % 2) 0) [
  | inl q ↦
      let s = ones_step n in
      let half = one_bit d (n / 2) (omega (arith, ones_le_self n)) (omega arith) in
      (suc half.0, omega (arith, half.1, pow-suc 2 half.0))
  | inr ne ↦ let s = ones_step n in let none = zero_from_ones (n / 2) (omega arith) in (0, omega arith)
]

pub power_of_two : (n : ℕ) → is_power_of_two n ≡ true → (k : ℕ) × (n ≡ 2 ^ k)
power_of_two n p = one_bit n n (omega arith) (eqb-true (count_ones n) 1 p)

-- the least multiple of b from a on
pub rounded : (a b : ℕ) → 0 < b → (a ≤ next_multiple_of a b) × (next_multiple_of a b < a + b) × (next_multiple_of a b % b ≡ 0)
rounded a b pos = elim (cases_eq (a % b) 0) [
  | inl q ↦
      let same : b - a % b ≡ b = omega (arith, q) in
      let whole : next_multiple_of a b ≡ a = rw (same, mod_self b, add-zero) refl in
      rw whole (omega arith, omega (arith, pos), q)
  | inr ne ↦
      let lt : a % b < b = mod-lt a pos in
      let rest : (b - a % b) % b ≡ b - a % b = mod-eq_of_lt (omega (arith, ne, lt)) in
      let sum : a + (b - a % b) ≡ b * (a / b) + b = omega (arith, lt, div-add-mod a b) in
      rw rest (omega arith, omega (arith, ne, lt), rw (sum, add-mod_right (b * (a / b)) b, mul-mod_right b (a / b)) refl)
]

pub alignment_parts : (n : ℕ) → IsAlignment n → (n ≤ 65536) × (is_power_of_two n ≡ true)
alignment_parts n a = let p = and_parts (leb n 65536) (is_power_of_two n) a in (leb-true n 65536 p.0, p.1)

pub alignment_positive : (n : ℕ) → IsAlignment n → 0 < n
alignment_positive n a = positive n (alignment_parts n a).1

-- the larger of two alignments is one
pub alignment_max : (a b : ℕ) → IsAlignment a → IsAlignment b → IsAlignment (max a b)
alignment_max a b x y = elim (cases_lt a b) [
  | inl lt ↦ let e : max a b ≡ b = omega (arith, lt) in rw e y
  | inr le ↦ let e : max a b ≡ a = omega (arith, le) in rw e x
]

divides_power : (n k : ℕ) → n ≡ 2 ^ k → k ≤ 20 → (c : ℕ) × (c * n ≡ 1048576)
divides_power n k q le = let e : (20 - k) + k ≡ 20 = omega (arith, le) in (2 ^ (20 - k), rw q (sym (pow-add 2 (20 - k) k) ∙ rw e refl))

-- each alignment divides the greatest size
divides : (n : ℕ) → IsAlignment n → (c : ℕ) × (c * n ≡ 1048576)
divides n a =
    let p = alignment_parts n a in
    let k = power_of_two n p.1 in
    elim (cases_lt 20 k.0) [
      | inl lt ↦ absurd (omega (arith, p.0, k.1, pow_below 20 k.0 lt))
      | inr le ↦ divides_power n k.0 k.1 le
    ]

no_further : (m n q d : ℕ) → m ≡ n * q → d * n ≡ 1048576 → m < 1048576 + n → m ≤ 1048576
no_further m n q d split whole lt = elim (cases_lt d q) [
  | inl more ↦ absurd (omega (arith, split, whole, lt, mul-le-mul_right n more, suc-mul d n, mul_comm q n))
  | inr few ↦ omega (arith, split, whole, mul-le-mul_right n few, mul_comm q n)
]

pub rounded_small : (a n : ℕ) → a ≤ 1048576 → IsAlignment n → next_multiple_of a n ≤ 1048576
rounded_small a n le al =
    let r = rounded a n (alignment_positive n al) in
    let d = divides n al in
    let m : ℕ = next_multiple_of a n in
    no_further m n (m / n) d.0 (omega (arith, div-add-mod m n, r.2)) d.1 (omega (arith, le, r.1))

pub lawful_from : (f : Frame) → IsAlignment f.align → f.size ≤ 1048576 → f.size % f.align ≡ 0
    → are_below f.size f.free ≡ true → list_all (is_solid_item f.size f.free) (forbids f) ≡ true → IsLawful f
lawful_from f aligned small whole below solid =
    let a = is_alignment f.align in
    let b = leb f.size 1048576 in
    let c = eqb (f.size % f.align) 0 in
    let d = are_below f.size f.free in
    let e = list_all (is_solid_item f.size f.free) (forbids f) in
    and_from (a && b && c && d) e
    (and_from (a && b && c) d
    (and_from (a && b) c (and_from a b aligned (le-leb f.size 1048576 small)) (eq-eqb (f.size % f.align) 0 whole)) below) solid

pub sum_alignment : (ok err : Frame) → IsLawful ok → IsLawful err → IsAlignment (sum_align ok err)
sum_alignment ok err a b = alignment_max ok.align err.align (parts ok a).align (parts err b).align

pub union_rounded : (ok err : Frame) → IsLawful ok → IsLawful err
    → (ok.size ≤ union_size ok err) × (err.size ≤ union_size ok err) × (union_size ok err % sum_align ok err ≡ 0)
union_rounded ok err a b =
    let r = rounded (max ok.size err.size) (sum_align ok err) (alignment_positive (sum_align ok err) (sum_alignment ok err a b)) in
    (omega (arith, r.0), omega (arith, r.0), r.2)

pub union_small : UnionLaw
union_small ok err a b =
    let x = (parts ok a).size in
    let y = (parts err b).size in
    rounded_small (max ok.size err.size) (sum_align ok err) (omega (arith, x, y)) (sum_alignment ok err a b)

-- of two multiples the lesser is less by a whole step
one_step : (a u n : ℕ) → u % a ≡ 0 → n % a ≡ 0 → n < u → n + a ≤ u
one_step a u n whole_u whole_n lt =
    let q : u ≡ a * (u / a) = omega (arith, div-add-mod u a, whole_u) in
    let r : n ≡ a * (n / a) = omega (arith, div-add-mod n a, whole_n) in
    elim (cases_lt (n / a) (u / a)) [
      | inl less ↦ omega (arith, q, r, mul-le-mul_right a less, suc-mul (n / a) a, mul_comm (n / a) a, mul_comm (u / a) a)
      | inr more ↦ absurd (omega (arith, q, r, lt, mul-le-mul_right a more, mul_comm (n / a) a, mul_comm (u / a) a))
    ]

pub union_least : RoundLaw
union_least ok err a b =
    let r = union_rounded ok err a b in
    let bound = rounded (max ok.size err.size) (sum_align ok err) (alignment_positive (sum_align ok err) (sum_alignment ok err a b)) in (
      r.0,
      r.1,
      r.2,
      λ n x y whole. elim (cases_lt n (union_size ok err)) [
        | inl lt ↦ absurd (omega (arith, one_step (sum_align ok err) (union_size ok err) n r.2 whole lt, bound.1, x, y))
        | inr le ↦ le
      ],
    )
