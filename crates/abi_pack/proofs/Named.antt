-- What the names of a part say of the parts in it.
use Rattle.std.proofs.Common.{◌≡◌, ℕ, zero, suc, ◌<◌, List, Bool, true, false, refl, ap, ◌∙◌, arith}
use Rattle.std.specs.declared.boxed.Box.{Box}
use Rattle.std.specs.declared.alloc.Global.{Global}
use Rattle.abi_pack.specs.ByteMap.{ByteMap}
use Rattle.abi_layout.specs.Plans.{IsNamed, AreNamed, is_second}
use Rattle.abi_pack.specs.Plain.{Plain, unit}
use Rattle.abi_layout.specs.Shape.{Shape, atom, scalar, repeated}
use Rattle.abi_pack.specs.Shows.{same_sort}
use Rattle.abi_layout.specs.Trees.{sides}
use Rattle.abi_pack.specs.ValueShown.{value_shown}
use Rattle.abi_pack.specs.View.{shape, shapes}
use Rattle.abi_layout.specs.declared.scalar.Scalar.TheVariants as scalars
use Rattle.abi_layout.specs.declared.part.Sort.{Sort}
use Rattle.abi_layout.specs.declared.part.Sort.TheVariants as sort
use Rattle.abi_layout.specs.declared.part.SumLayout.{SumLayout}
use Rattle.abi_layout.specs.declared.part.PartField.{PartField}
use Rattle.abi_layout.specs.declared.part.Part.{Part}
use Rattle.abi_layout.specs.declared.part.Part.TheVariants as part
use Rattle.abi_pack.proofs.Steps.{struct_is}
use Rattle.abi_pack.proofs.Views.{shape_sum}

pub struct_named : (p : Part) (fs all : List PartField) (n : ℕ) → p ≡ part.Struct all n → fs ≡ all → IsNamed (shape p) → AreNamed (shapes fs)
struct_named p fs all n e same named = rw (struct_is p fs all n e same) at named

pub row_named : (n : ℕ) (s : Shape) → 0 < n → AreNamed (repeated n s) → IsNamed s
row_named zero s h named = absurd (omega arith)
row_named (suc n) s h named = named.0

pub variant_named : (p q : Part) (names : Sort) (a b : Box Part Global) (at : SumLayout) (first : Bool) → p ≡ part.Sum names a b at
    → shape q ≡ sides (shape a.value) (shape b.value) first → IsNamed (shape p) → IsNamed (shape q)
variant_named p q names a b at first e is named =
    let kept : ((first : Bool) → IsNamed (sides (shape a.value) (shape b.value) first)) × (is_second names (shape b.value) ≡ true) = rw (e, shape_sum names a b at) at named in
    rw is (kept.0 first)

told_second : (names : Sort) (s : Shape) (f : ByteMap) → is_second names s ≡ true → same_sort names sort.OfOption ≡ true → value_shown s f ≡ unit
told_second sort.OfOption (atom (scalar scalars.Unit)) f is same = refl
told_second sort.OfResult s f is same = absurd (cc)
told_second _ _ f is same = absurd (cc)

-- `None` holds the one value of `()`
pub none_unit : (p q : Part) (names : Sort) (a b : Box Part Global) (at : SumLayout) (first : Bool) (f : ByteMap) (v : Plain) → p ≡ part.Sum names a b at
    → shape q ≡ sides (shape a.value) (shape b.value) first → IsNamed (shape p) → v ≡ value_shown (shape q) f
    → same_sort names sort.OfOption ≡ true → first ≡ false → v ≡ unit
none_unit p q names a b at first f v e is named value same none =
    let kept : ((first : Bool) → IsNamed (sides (shape a.value) (shape b.value) first)) × (is_second names (shape b.value) ≡ true) = rw (e, shape_sum names a b at) at named in
    let second : shape q ≡ shape b.value = is ∙ ap (λ (t : Bool). sides (shape a.value) (shape b.value) t) none in
    value ∙ ap (λ (s : Shape). value_shown s f) second ∙ told_second names (shape b.value) f kept.1 same
