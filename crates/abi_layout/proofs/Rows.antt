-- Every row of the table of primitives is lawful on each supported target.
use lib.Count.{ones}
use Rattle.std.proofs.Common.{◌≡◌, ℕ, ◌%◌, ◌≤◌, Bool, true, false, ◌&&◌, List, [], ◌∷◌, eqb, cond, refl, inl, inr, arith}
use Rattle.std.specs.List.{list_all, list_any}
use Rattle.std.proofs.lemmas.Bool.{and_parts, or_cases, eqb-true, le-leb}
use Rattle.abi_num.specs.Alignment.{is_alignment}
use Rattle.abi_num.specs.Target.{target_rows, same_bool, same_target, is_row}
use Rattle.abi_num.specs.declared.target.Target.{Target}
use Rattle.abi_bits.specs.Forbidden.{pattern, is_solid_item}
use Rattle.abi_bits.proofs.Trees.{items_made}
use Rattle.abi_det.specs.Frame.{IsLawful}
use Rattle.abi_layout.specs.Prims.{width_size, kind_width, scalar_size, scalar_items, plain_integer, zero_bytes, row_of, is_never_null, pointer_row, row_frame}
use Rattle.abi_layout.specs.declared.desc.PointerKind.{PointerKind}
use Rattle.abi_layout.specs.declared.prim.Form.{Form}
use Rattle.abi_layout.specs.declared.prim.Form.TheVariants as form
use Rattle.abi_layout.specs.declared.prim.IntKind.{IntKind}
use Rattle.abi_layout.specs.declared.prim.IntKind.TheVariants as kind
use Rattle.abi_layout.specs.declared.primitives.Row.{Row}
use Rattle.abi_layout.specs.declared.scalar.Scalar.{Scalar}
use Rattle.abi_layout.specs.declared.scalar.Scalar.TheVariants as scalars
use Rattle.abi_layout.specs.declared.scalar.Width.{Width}
use Rattle.abi_layout.specs.declared.scalar.Width.TheVariants as width

-- ---- what holds of each supported target

bool_same : (a b : Bool) → same_bool a b ≡ true → a ≡ b
bool_same true true e = refl
bool_same false false e = refl
bool_same true false e = absurd (cc)
bool_same false true e = absurd (cc)

target_same : (s t : Target) → same_target s t ≡ true → s ≡ t
target_same s t same =
    let abc = and_parts (same_bool s.little t.little && eqb s.pointer t.pointer && eqb s.u64_align t.u64_align) (eqb s.u128_align t.u128_align) same in
    let ab = and_parts (same_bool s.little t.little && eqb s.pointer t.pointer) (eqb s.u64_align t.u64_align) abc.0 in
    let a = and_parts (same_bool s.little t.little) (eqb s.pointer t.pointer) ab.0 in
    let l = bool_same s.little t.little a.0 in
    let p = eqb-true s.pointer t.pointer a.1 in
    let u = eqb-true s.u64_align t.u64_align ab.1 in
    let w = eqb-true s.u128_align t.u128_align abc.1 in
    λ i. record { little = l i; pointer = p i; u64_align = u i; u128_align = w i }

in_rows : (holds : Target → Bool) (t : Target) (rows : List (List ℕ × Target)) → list_all (λ row. holds row.1) rows ≡ true
    → list_any (λ row. same_target row.1 t) rows ≡ true → holds t ≡ true
in_rows holds t [] each same = absurd (cc)
in_rows holds t (row ∷ rows) each same =
    let h = and_parts (holds row.1) (list_all (λ row. holds row.1) rows) each in
    elim (or_cases (same_target row.1 t) (list_any (λ row. same_target row.1 t) rows) same) [
      | inl here ↦ let e = target_same row.1 t here in rw (← e) h.0
      | inr there ↦ in_rows holds t rows h.1 there
    ]

-- what holds of each row of the supported targets holds of a supported target
pub each_row : (holds : Target → Bool) (t : Target) → list_all (λ row. holds row.1) target_rows ≡ true → is_row t ≡ true → holds t ≡ true
each_row holds t each row = in_rows holds t target_rows each row

-- ---- rows that fit

-- the alignment is one, and divides the size
abbrev is_fit : Row → Bool
is_fit r = is_alignment r.align && eqb (scalar_size r.scalar % r.align) 0

kind_rows : (k : IntKind) → list_all (λ row. is_fit (plain_integer row.1 k)) target_rows ≡ true
unfolding ones
kind_rows kind.U8 = refl
kind_rows kind.U16 = refl
kind_rows kind.U32 = refl
kind_rows kind.U64 = refl
kind_rows kind.U128 = refl
kind_rows kind.Usize = refl
kind_rows kind.I8 = refl
kind_rows kind.I16 = refl
kind_rows kind.I32 = refl
kind_rows kind.I64 = refl
kind_rows kind.I128 = refl
kind_rows kind.Isize = refl

kind_fits : (t : Target) (k : IntKind) → is_row t ≡ true → is_fit (plain_integer t k) ≡ true
kind_fits t k row = each_row (λ t. is_fit (plain_integer t k)) t (kind_rows k) row

width_fits : (w : Width) → (is_alignment (width_size w) && eqb (width_size w % width_size w) 0) ≡ true
unfolding ones
width_fits width.One = refl
width_fits width.Two = refl
width_fits width.Four = refl
width_fits width.Eight = refl
width_fits width.Sixteen = refl

row_fits : (t : Target) (f : Form) → is_row t ≡ true → is_fit (row_of t f) ≡ true
unfolding ones
row_fits t form.Unit row = refl
row_fits t form.Truth row = refl
row_fits t form.Order row = refl
row_fits t (form.Integer k) row = kind_fits t k row
row_fits t (form.Atomic k) row = width_fits (kind_width t k)
row_fits t (form.NonZero k) row = kind_fits t k row
row_fits t (form.NonMax k) row = kind_fits t k row
row_fits t (form.NonX k magnitude negative) row = kind_fits t k row
row_fits t form.Descriptor row = refl
row_fits t form.Function row = kind_fits t kind.Usize row

-- ---- lawful rows

zeros_solid : (w : Width) → is_solid_item (width_size w) [] (pattern (zero_bytes (width_size w))) ≡ true
zeros_solid width.One = refl
zeros_solid width.Two = refl
zeros_solid width.Four = refl
zeros_solid width.Eight = refl
zeros_solid width.Sixteen = refl

scalar_solid : (c : Scalar) → list_all (is_solid_item (scalar_size c) []) (scalar_items c) ≡ true
scalar_solid scalars.Unit = refl
scalar_solid scalars.Bool = refl
scalar_solid scalars.Order = refl
scalar_solid (scalars.Int i) = by_zero i.zero
  where
    by_zero : (zero : Bool) → list_all (is_solid_item (width_size i.width) []) (cond zero [] (pattern (zero_bytes (width_size i.width)) ∷ [])) ≡ true
    by_zero true = refl
    by_zero false = let s = zeros_solid i.width in rw s refl

width_small : (w : Width) → width_size w ≤ 16
width_small width.One = omega arith
width_small width.Two = omega arith
width_small width.Four = omega arith
width_small width.Eight = omega arith
width_small width.Sixteen = omega arith

scalar_small : (c : Scalar) → scalar_size c ≤ 16
scalar_small scalars.Unit = omega arith
scalar_small scalars.Bool = omega arith
scalar_small scalars.Order = omega arith
scalar_small (scalars.Int i) = width_small i.width

pub row_small : (r : Row) → (row_frame r).size ≤ 16
unfolding row_frame
row_small r = scalar_small r.scalar

fit_lawful : (r : Row) → is_fit r ≡ true → IsLawful (row_frame r)
unfolding row_frame
fit_lawful r fit =
    let f = and_parts (is_alignment r.align) (eqb (scalar_size r.scalar % r.align) 0) fit in
    let small = le-leb (scalar_size r.scalar) 1048576 (omega (arith, scalar_small r.scalar)) in
    let solid = scalar_solid r.scalar in
    rw (f.0, f.1, small, items_made (scalar_items r.scalar), solid) refl

pub row_lawful : (t : Target) (f : Form) → is_row t ≡ true → IsLawful (row_frame (row_of t f))
row_lawful t f row = fit_lawful (row_of t f) (row_fits t f row)

pub pointer_lawful : (t : Target) (k : PointerKind) → is_row t ≡ true → IsLawful (row_frame (pointer_row t k))
pointer_lawful t k row = fit_lawful (pointer_row t k) (by_null (is_never_null k))
  where
    by_null : (never : Bool) → is_fit (cond never (row_of t form.Function) (record (plain_integer t kind.Usize) { indirections = true })) ≡ true
    by_null true = row_fits t form.Function row
    by_null false = kind_fits t kind.Usize row
