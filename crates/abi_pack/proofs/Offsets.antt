-- Parts that stand at an offset in bytes.
use Rattle.std.proofs.Common.{◌≡◌, ℕ, ◌+◌, List, [], ◌∷◌, ◌++◌, ◌-◌, ◌≤◌, length, take, drop, length-drop, Bool, ◌&&◌, refl, ap, ◌∙◌, sym, arith}
use mathlib.Core.Path.{fun_ext}
use Rattle.std.proofs.lemmas.List.{get_or-drop}
use Rattle.std.proofs.Math.Seq.{take-length}
use Rattle.std.specs.declared.boxed.Box.{Box}
use Rattle.std.specs.declared.alloc.Global.{Global}
use Rattle.abi_det.specs.State.{is_state_ok, IsCovered}
use Rattle.abi_det.specs.declared.determinant.Determinant.{Determinant}
use Rattle.abi_pack.specs.ByteMap.{ByteMap, seen_from, bytes_of}
use Rattle.abi_pack.specs.Plain.{Plain, Plains, list, variant, end, more}
use Rattle.abi_layout.specs.Shape.{Shape, size}
use Rattle.abi_pack.specs.Shows.{start_of}
use Rattle.abi_layout.specs.Trees.{sides}
use Rattle.abi_pack.specs.Consistent.{IsConsistent}
use Rattle.abi_pack.specs.ValueShown.{is_shown, is_shown_in, value_shown, values_shown}
use Rattle.abi_pack.specs.View.{shape, shapes, plain, plains, joined}
use Rattle.abi_layout.specs.declared.part.Sort.{Sort}
use Rattle.abi_layout.specs.declared.part.SumLayout.{SumLayout}
use Rattle.abi_layout.specs.declared.part.PartField.{PartField}
use Rattle.abi_layout.specs.declared.part.Part.{Part}
use Rattle.abi_layout.specs.declared.part.Part.TheVariants as part
use Rattle.abi_pack.specs.declared.value.Value.{Value}
use Rattle.abi_pack.specs.declared.value.Value.TheVariants as value
use Rattle.abi_pack.proofs.ShownValues.{shown_state, told_state}
use Rattle.abi_pack.proofs.Views.{shape_sum, plain_list}
use Rattle.abi_pack.proofs.Steps.{struct_is, sum_covered}

pub from_from : (f : ByteMap) (x at o : ℕ) → x ≡ at + o → seen_from x f ≡ seen_from o (seen_from at f)
from_from f x at o e = fun_ext (λ i. ap f (omega arith))

pub dropped : (xs : List ℕ) (at : ℕ) → bytes_of (drop at xs) ≡ seen_from at (bytes_of xs)
dropped xs at = fun_ext (λ i. get_or-drop at xs i 0)

pub state_at : (d : Determinant) (xs : List ℕ) (at : ℕ) (b : Bool) → b ≡ is_state_ok d (bytes_of (drop at xs)) → is_state_ok d (seen_from at (bytes_of xs)) ≡ b
state_at d xs at b e = sym (e ∙ ap (is_state_ok d) (dropped xs at))

-- ---- a sum

pub shown_sum : (p q : Part) (names : Sort) (a b : Box Part Global) (at : SumLayout) (first : Bool) (f : ByteMap) (o x : ℕ) (r : Bool)
    → p ≡ part.Sum names a b at → shape q ≡ sides (shape a.value) (shape b.value) first → is_state_ok at.determinant (seen_from o f) ≡ first
    → x ≡ o + start_of at first → r ≡ is_shown (shape q) (seen_from x f) → r ≡ is_shown (shape p) (seen_from o f)
shown_sum p q names a b at first f o x r e side state ex is =
    let side_ : Bool → Shape = sides (shape a.value) (shape b.value) in
    is ∙ rw (side, from_from f x o (start_of at first) ex) (shown_state names side_ at first (seen_from o f) state)
    ∙ sym (ap (λ s. is_shown s (seen_from o f)) (ap shape e ∙ shape_sum names a b at))

pub told_sum : (p q : Part) (names : Sort) (a b : Box Part Global) (at : SumLayout) (first : Bool) (f : ByteMap) (o x : ℕ) (v : Plain)
    → p ≡ part.Sum names a b at → shape q ≡ sides (shape a.value) (shape b.value) first → is_state_ok at.determinant (seen_from o f) ≡ first
    → x ≡ o + start_of at first → v ≡ value_shown (shape q) (seen_from x f) → variant names first v ≡ value_shown (shape p) (seen_from o f)
told_sum p q names a b at first f o x v e side state ex is =
    let side_ : Bool → Shape = sides (shape a.value) (shape b.value) in
    ap (variant names first) is ∙ rw (side, from_from f x o (start_of at first) ex) (told_state names side_ at first (seen_from o f) state)
    ∙ sym (ap (λ s. value_shown s (seen_from o f)) (ap shape e ∙ shape_sum names a b at))

-- ---- fields

pub shown_fields : (all fields : List PartField) (one : PartField) (f : ByteMap) (o x y : ℕ) (p q : Bool) → all ≡ one ∷ fields
    → x ≡ o + one.gap → y ≡ x + size (shape one.part) → p ≡ is_shown (shape one.part) (seen_from x f) → q ≡ is_shown_in (shapes fields) (seen_from y f)
    → (p && q) ≡ is_shown_in (shapes all) (seen_from o f)
shown_fields all fields one f o x y p q e ex ey first rest =
    rw (e, first, rest, from_from f x o one.gap ex, from_from f y o (one.gap + size (shape one.part)) (omega arith)) refl

pub told_fields : (all fields : List PartField) (one : PartField) (f : ByteMap) (o x y : ℕ) → all ≡ one ∷ fields
    → x ≡ o + one.gap → y ≡ x + size (shape one.part)
    → values_shown (shapes all) (seen_from o f) ≡ more (value_shown (shape one.part) (seen_from x f)) (values_shown (shapes fields) (seen_from y f))
told_fields all fields one f o x y e ex ey =
    rw (e, from_from f x o one.gap ex, from_from f y o (one.gap + size (shape one.part)) (omega arith)) refl

-- ---- the rest of the bytes from an offset on

pub rest_whole : (xs : List ℕ) (at : ℕ) → take (length xs - at) (drop at xs) ≡ drop at xs
rest_whole xs at = rw (← length-drop at xs) (take-length (drop at xs))

pub state_rest : (d : Determinant) (xs : List ℕ) (at : ℕ) (b : Bool) → b ≡ is_state_ok d (bytes_of (take (length xs - at) (drop at xs))) → is_state_ok d (seen_from at (bytes_of xs)) ≡ b
state_rest d xs at b e = state_at d xs at b (rw (rest_whole xs at) at e)

pub covered_rest : (p : Part) (names : Sort) (a b : Box Part Global) (at : SumLayout) (o : ℕ) (xs : List ℕ) → p ≡ part.Sum names a b at → IsConsistent (shape p) → o + size (shape p) ≤ length xs
    → IsCovered at.determinant.test (length (take (length xs - o) (drop o xs)))
covered_rest p names a b at o xs e sound within =
    let long : length (drop o xs) ≡ length xs - o = length-drop o xs in
    rw (rest_whole xs o) (sum_covered p names a b at (length (drop o xs)) e sound (omega arith))

-- ---- values read one after another

pub joined_end : (vs : List Value) → joined vs end ≡ plains vs
joined_end [] = refl
joined_end (v ∷ vs) = ap (more (plain v)) (joined_end vs)

pub joined_push : (vs : List Value) (v : Value) (rest : Plains) → joined (vs ++ v ∷ []) rest ≡ joined vs (more (plain v) rest)
joined_push [] v rest = refl
joined_push (w ∷ vs) v rest = ap (more (plain w)) (joined_push vs v rest)

pub read_step : (old new pushed : List Value) (v : Value) (all fields : List PartField) (one : PartField) (f : ByteMap) (o x y : ℕ)
    → pushed ≡ old ++ v ∷ [] → plain v ≡ value_shown (shape one.part) (seen_from x f) → all ≡ one ∷ fields → x ≡ o + one.gap → y ≡ x + size (shape one.part)
    → joined new end ≡ joined pushed (values_shown (shapes fields) (seen_from y f))
    → joined new end ≡ joined old (values_shown (shapes all) (seen_from o f))
read_step old new pushed v all fields one f o x y is value cons ex ey rest =
    rest ∙ rw is (joined_push old v (values_shown (shapes fields) (seen_from y f)))
    ∙ ap (joined old) (ap (λ w. more w (values_shown (shapes fields) (seen_from y f))) value ∙ sym (told_fields all fields one f o x y cons ex ey))

pub told_list : (vs old : List Value) (p : Part) (fields all : List PartField) (n : ℕ) (f : ByteMap) → p ≡ part.Struct all n → fields ≡ all → old ≡ []
    → joined vs end ≡ joined old (values_shown (shapes fields) f) → plain (value.List vs) ≡ value_shown (shape p) f
told_list vs old p fields all n f e same none is =
    plain_list vs ∙ ap list (sym (joined_end vs) ∙ rw none at is) ∙ sym (ap (λ s. value_shown s f) (struct_is p fields all n e same))
