-- What a part's requirements say of the parts in it.
use Rattle.std.specs.Int.{is_power_of_two}
use Rattle.std.specs.Int.Count.{ones}
use Rattle.std.specs.Prelude.{nat_lt}
use Rattle.std.proofs.Common.{◌≡◌, ℕ, zero, suc, ◌+◌, ◌^◌, ◌<◌, ◌≤◌, List, [], ◌∷◌, ◌&&◌, Bool, true, refl, ap, sym, subst, arith}
use Rattle.std.proofs.lemmas.Bool.Decides.{nat_tests}
use Rattle.std.specs.declared.boxed.Box.{Box}
use Rattle.std.specs.declared.alloc.Global.{Global}
use Rattle.abi_bits.specs.Pairs.{Pair, are_below}
use Rattle.abi_bits.specs.Forbidden.{items, are_items_below}
use Rattle.abi_bits.specs.declared.forbidden_values.ForbiddenValues.{ForbiddenValues}
use Rattle.abi_det.specs.SoundPlacement.{IsTest}
use Rattle.abi_det.specs.State.{IsCovered}
use Rattle.abi_det.specs.declared.determinant.Test.{Test}
use Rattle.abi_det.specs.declared.determinant.Test.TheVariants as test
use Rattle.abi_pack.specs.Plain.{Plain, variant}
use Rattle.abi_layout.specs.Shape.{fields, size, size_in}
use Rattle.abi_pack.specs.Shows.{fits, same_sort, start_of}
use Rattle.abi_layout.specs.Trees.{sides}
use Rattle.abi_pack.specs.Consistent.{IsConsistent, AreConsistent, IsSumLayout}
use Rattle.abi_pack.specs.View.{shape, shapes}
use Rattle.abi_layout.specs.declared.part.Compound.TheVariants as compound
use Rattle.abi_layout.specs.declared.part.Sort.{Sort}
use Rattle.abi_layout.specs.declared.part.SumLayout.{SumLayout}
use Rattle.abi_layout.specs.declared.part.PartField.{PartField}
use Rattle.abi_layout.specs.declared.part.Part.{Part}
use Rattle.abi_layout.specs.declared.part.Part.TheVariants as part
use Rattle.abi_pack.proofs.Cleared.{solid_items_below}
use Rattle.abi_pack.proofs.Choice.{and_both, and_first, and_second}
use Rattle.abi_pack.proofs.Nodes.{nodes, variant_fewer}
use Rattle.abi_pack.proofs.Views.{shape_raw, shape_struct, shape_sum}

-- ---- a struct

pub struct_is : (p : Part) (fs all : List PartField) (n : ℕ) → p ≡ part.Struct all n → fs ≡ all → shape p ≡ fields compound.Struct n (shapes fs)
struct_is p fs all n e same = rw (e, same) (shape_struct all n)

pub struct_sound : (p : Part) (fs all : List PartField) (n : ℕ) → p ≡ part.Struct all n → fs ≡ all → IsConsistent (shape p) → AreConsistent (shapes fs)
struct_sound p fs all n e same sound = (rw (struct_is p fs all n e same) at sound).0

pub struct_within : (p : Part) (fs all : List PartField) (n o m : ℕ) → p ≡ part.Struct all n → fs ≡ all → IsConsistent (shape p) → o + size (shape p) ≤ m
    → o + size_in (shapes fs) ≤ m
struct_within p fs all n o m e same sound within =
    let is = struct_is p fs all n e same in
    let whole : size (shape p) ≡ n = ap size is in
    let less : size_in (shapes fs) ≤ n = (rw is at sound).1 in omega arith

-- ---- bytes as they stand

pub raw_below : (p : Part) (n : ℕ) (free : List Pair) (forbidden : ForbiddenValues) → p ≡ part.Raw n free forbidden → IsConsistent (shape p)
    → are_items_below n (items forbidden) ≡ true
raw_below p n free forbidden e sound = solid_items_below n free (items forbidden) (rw (e, shape_raw n free forbidden) at sound).1

-- ---- tests

one_power : (b : ℕ) → b < 8 → is_power_of_two (2 ^ b) ≡ true
unfolding ones
one_power zero h = refl
one_power (suc zero) h = refl
one_power (suc (suc zero)) h = refl
one_power (suc (suc (suc zero))) h = refl
one_power (suc (suc (suc (suc zero)))) h = refl
one_power (suc (suc (suc (suc (suc zero))))) h = refl
one_power (suc (suc (suc (suc (suc (suc zero)))))) h = refl
one_power (suc (suc (suc (suc (suc (suc (suc zero))))))) h = refl
one_power (suc (suc (suc (suc (suc (suc (suc (suc b)))))))) h = absurd (omega arith)

-- a test of n bytes may be asked of n bytes
pub test_covered : (t : Test) (n : ℕ) → IsTest t n → IsCovered t n
test_covered test.BitDeterminant n is = grind (arith, nat_tests)
test_covered (test.ValueIsErr ps) n is = is.1
test_covered (test.BitIsErr o m) n is =
    let inside : nat_lt o n ≡ true = (let h : o < n = is.0 in grind (arith, nat_tests)) in
    and_both (nat_lt o n) _ inside (subst (λ x. is_power_of_two x ≡ true) (sym is.1.2) (one_power is.1.0 is.1.1))

pub below_longer : (n m : ℕ) (ps : List Pair) → n ≤ m → are_below n ps ≡ true → are_below m ps ≡ true
below_longer n m [] le h = refl
below_longer n m (p ∷ ps) le h =
    let first : nat_lt p.0 n ≡ true = and_first (nat_lt p.0 n) _ h in
    let still : nat_lt p.0 m ≡ true = grind (arith, nat_tests) in
    and_both (nat_lt p.0 m) _ still (below_longer n m ps le (and_second (nat_lt p.0 n) _ h))

covered_longer : (t : Test) (n m : ℕ) → n ≤ m → IsCovered t n → IsCovered t m
covered_longer test.BitDeterminant n m le h = grind (arith, nat_tests)
covered_longer (test.ValueIsErr ps) n m le h = below_longer n m ps le h
covered_longer (test.BitIsErr o x) n m le h =
    let inside : nat_lt o n ≡ true = and_first (nat_lt o n) _ h in
    let still : nat_lt o m ≡ true = grind (arith, nat_tests) in
    and_both (nat_lt o m) _ still (and_second (nat_lt o n) _ h)

-- ---- a sum

pub sum_sound : (p : Part) (names : Sort) (a b : Box Part Global) (at : SumLayout) → p ≡ part.Sum names a b at → IsConsistent (shape p)
    → ((first : Bool) → IsConsistent (sides (shape a.value) (shape b.value) first)) × IsSumLayout (sides (shape a.value) (shape b.value)) at
sum_sound p names a b at e sound = rw (e, shape_sum names a b at) at sound

pub sum_size : (p : Part) (names : Sort) (a b : Box Part Global) (at : SumLayout) → p ≡ part.Sum names a b at → size (shape p) ≡ at.size
sum_size p names a b at e = rw (e, shape_sum names a b at) refl

-- the test may be asked of as many bytes as the sum has, and of more
pub sum_covered : (p : Part) (names : Sort) (a b : Box Part Global) (at : SumLayout) (n : ℕ) → p ≡ part.Sum names a b at → IsConsistent (shape p) → size (shape p) ≤ n
    → IsCovered at.determinant.test n
sum_covered p names a b at n e sound long =
    covered_longer at.determinant.test at.size n (let same : size (shape p) ≡ at.size = sum_size p names a b at e in omega arith)
    (test_covered at.determinant.test at.size (sum_sound p names a b at e sound).1.tested)

-- the part q is the variant of the sum that stands at an offset in n bytes
pub record IsVariantOf (p q : Part) (at : SumLayout) (first : Bool) (o n : ℕ) : Type 0 where
  pub fewer : nodes (shape q) < nodes (shape p)
  pub sound : IsConsistent (shape q)
  pub within : o + start_of at first + size (shape q) ≤ n

pub variant_of : (p q : Part) (names : Sort) (a b : Box Part Global) (at : SumLayout) (first : Bool) (o n : ℕ) → p ≡ part.Sum names a b at
    → shape q ≡ sides (shape a.value) (shape b.value) first → IsConsistent (shape p) → o + size (shape p) ≤ n → IsVariantOf p q at first o n
variant_of p q names a b at first o n e is sound within =
    let whole : size (shape p) ≡ at.size = sum_size p names a b at e in
    let kept = sum_sound p names a b at e sound in
    let inside : start_of at first + size (sides (shape a.value) (shape b.value) first) ≤ at.size = (kept.1.each first).inside in
    record { fewer = variant_fewer p q names a b at first e is; sound = rw is (kept.0 first); within = rw is (omega arith) }

-- and the payload of a value of the sum is one of the variant's
pub payload_fits : (p q : Part) (names kind : Sort) (a b : Box Part Global) (at : SumLayout) (v w : Plain) (first : Bool) → p ≡ part.Sum names a b at
    → shape q ≡ sides (shape a.value) (shape b.value) first → v ≡ variant kind first w → fits (shape p) v ≡ true → fits (shape q) w ≡ true
payload_fits p q names kind a b at v w first e is value h =
    let fit : (same_sort names kind && fits (sides (shape a.value) (shape b.value) first) w) ≡ true = rw (e, shape_sum names a b at, value) at h in
    rw is (and_second (same_sort names kind) _ fit)
