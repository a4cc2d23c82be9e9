-- How many values are in the value that bytes show.
use Rattle.std.proofs.Common.{◌≡◌, ℕ, zero, suc, ◌+◌, ◌*◌, ◌-◌, ◌<◌, ◌≤◌, min, ◌⊎◌, inl, inr, List, ◌∷◌, Bool, ◌&&◌, refl, ap, ◌∙◌, sym, arith}
use Rattle.std.specs.Prelude.{nat_le}
use Rattle.std.proofs.lemmas.Bool.{cases_lt}
use Rattle.std.specs.declared.boxed.Box.{Box}
use Rattle.std.specs.declared.alloc.Global.{Global}
use Rattle.abi_bits.specs.Pairs.{Pair}
use Rattle.abi_bits.specs.declared.forbidden_values.ForbiddenValues.{ForbiddenValues}
use Rattle.abi_det.specs.State.{is_state_ok}
use Rattle.abi_layout.specs.Shape.{Shape, size, repeated}
use Rattle.abi_layout.specs.Trees.{sides}
use Rattle.abi_layout.specs.declared.scalar.Scalar.{Scalar}
use Rattle.abi_layout.specs.declared.scalar.Scalar.TheVariants as scalars
use Rattle.abi_layout.specs.declared.part.Sort.{Sort}
use Rattle.abi_layout.specs.declared.part.SumLayout.{SumLayout}
use Rattle.abi_layout.specs.declared.part.PartField.{PartField}
use Rattle.abi_layout.specs.declared.part.Part.{Part}
use Rattle.abi_layout.specs.declared.part.Part.TheVariants as part
use Rattle.abi_pack.specs.ByteMap.{ByteMap, seen_from}
use Rattle.abi_pack.specs.Counting.{values_in, values_in_all}
use Rattle.abi_pack.specs.Scalars.{half, decoded, number_in, scalar_shown}
use Rattle.abi_pack.specs.Shows.{start_of}
use Rattle.abi_pack.specs.ValueShown.{value_shown, values_shown}
use Rattle.abi_pack.specs.View.{shape, shapes}
use Rattle.abi_pack.proofs.Choice.{branch}
use Rattle.abi_pack.proofs.Offsets.{from_from, told_sum, told_fields}
use Rattle.abi_pack.proofs.Rows.{row_next, from_nothing, array_is}
use Rattle.abi_pack.proofs.Steps.{struct_is}
use Rattle.abi_pack.proofs.Views.{shape_scalar, shape_raw}

-- ---- each kind of part

scalar_alone : (c : Scalar) (f : ByteMap) → values_in (scalar_shown c f) ≡ 1
scalar_alone scalars.Unit f = refl
scalar_alone scalars.Bool f = refl
scalar_alone scalars.Order f = refl
scalar_alone (scalars.Int g) f =
    branch (λ v. values_in v ≡ 1) (g.signed && nat_le (half g.width) (decoded g.width g.stored (number_in g f))) _ _ (λ h. refl) (λ h. refl)

pub scalar_values : (c : Scalar) (f : ByteMap) → values_in (value_shown (shape (part.Scalar c)) f) ≡ 1
scalar_values c f = rw (shape_scalar c) (scalar_alone c f)

pub raw_values : (n : ℕ) (free : List Pair) (forbidden : ForbiddenValues) (f : ByteMap) → values_in (value_shown (shape (part.Raw n free forbidden)) f) ≡ 1
raw_values n free forbidden f = rw (shape_raw n free forbidden) refl

pub struct_values : (p : Part) (fs all : List PartField) (n : ℕ) (f : ByteMap) → p ≡ part.Struct all n → fs ≡ all
    → values_in (value_shown (shape p) f) ≡ values_in_all (values_shown (shapes fs) f) + 1
struct_values p fs all n f e same = rw (struct_is p fs all n e same) refl

pub array_values : (p one : Part) (item : Box Part Global) (len whole : ℕ) (f : ByteMap) → p ≡ part.Array item len whole → one ≡ item.value
    → values_in (value_shown (shape p) f) ≡ values_in_all (values_shown (repeated len (shape one)) f) + 1
array_values p one item len whole f e same = rw (array_is p one item len whole e same) refl

pub sum_values : (p q : Part) (names : Sort) (a b : Box Part Global) (at : SumLayout) (first : Bool) (f : ByteMap) (o x : ℕ)
    → p ≡ part.Sum names a b at → shape q ≡ sides (shape a.value) (shape b.value) first → is_state_ok at.determinant (seen_from o f) ≡ first
    → x ≡ o + start_of at first → values_in (value_shown (shape p) (seen_from o f)) ≡ values_in (value_shown (shape q) (seen_from x f)) + 1
sum_values p q names a b at first f o x e side state ex = ap values_in (sym (told_sum p q names a b at first f o x _ e side state ex refl))

pub field_values : (all fields : List PartField) (one : PartField) (f : ByteMap) (o x y : ℕ) → all ≡ one ∷ fields → x ≡ o + one.gap → y ≡ x + size (shape one.part)
    → values_in_all (values_shown (shapes all) (seen_from o f))
    ≡ values_in (value_shown (shape one.part) (seen_from x f)) + values_in_all (values_shown (shapes fields) (seen_from y f))
field_values all fields one f o x y e ex ey = ap values_in_all (told_fields all fields one f o x y e ex ey)

-- ---- items

pub item_values : (n i : ℕ) (s : Shape) (f : ByteMap) (o y : ℕ) → i < n → y ≡ o + size s
    → values_in_all (values_shown (repeated (n - i) s) (seen_from o f))
    ≡ values_in (value_shown s (seen_from o f)) + values_in_all (values_shown (repeated (n - (i + 1)) s) (seen_from y f))
item_values n i s f o y h ey =
    let here : values_in (value_shown s (seen_from 0 (seen_from o f))) ≡ values_in (value_shown s (seen_from o f)) =
    ap (λ g. values_in (value_shown s g)) (from_nothing (seen_from o f)) in
    let rest : seen_from (0 + size s) (seen_from o f) ≡ seen_from y f = sym (from_from f y o (0 + size s) (omega arith)) in
    rw (row_next n i s h, here, rest) refl

-- items without bytes all have the same values
pub point_values : (n : ℕ) (s : Shape) (f : ByteMap) → size s ≡ 0 → values_in_all (values_shown (repeated n s) f) ≡ n * values_in (value_shown s f)
point_values zero s f none = omega arith
point_values (suc n) s f none =
    let nothing : 0 + size s ≡ 0 = omega arith in
    let here : values_in (value_shown s (seen_from 0 f)) ≡ values_in (value_shown s f) = ap (λ g. values_in (value_shown s g)) (from_nothing f) in
    let there : values_in_all (values_shown (repeated n s) (seen_from (0 + size s) f)) ≡ values_in_all (values_shown (repeated n s) f) =
    ap (λ o. values_in_all (values_shown (repeated n s) (seen_from o f))) nothing ∙ ap (λ g. values_in_all (values_shown (repeated n s) g)) (from_nothing f) in
    let rest = point_values n s f none in
    rw (here, there, rest) (omega arith)

-- a count that stands still at `most`, as often as there are items
pub still_times : (n count most wide : ℕ) → 0 < n → most ≤ wide → min (min (min count most * n) wide) most ≡ min (n * count) most
still_times zero count most wide h le = absurd (omega arith)
still_times (suc n) count most wide h le = pick (cases_lt count most)
  where
    pick : (count < most) ⊎ (most ≤ count) → min (min (min count most * suc n) wide) most ≡ min (suc n * count) most
    pick (inl low) = let same : min count most ≡ count = omega arith in rw same (let turned : count * suc n ≡ suc n * count = grind arith in omega (arith, turned, le))
    pick (inr high) =
        let same : min count most ≡ most = omega arith in
        let more_ : most ≤ most * suc n = grind arith in
        let much : count ≤ suc n * count = grind arith in rw same (omega (arith, le, more_, much, high))
