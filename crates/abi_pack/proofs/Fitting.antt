-- Which values fit, kind by kind.
use Rattle.std.proofs.Common.{◌≡◌, ℕ, List, Bool, false, ◌&&◌, refl}
use Rattle.std.specs.declared.boxed.Box.{Box}
use Rattle.std.specs.declared.alloc.Global.{Global}
use Rattle.abi_pack.specs.Plain.{Plain, Plains, list, variant, is_list, is_variant}
use Rattle.abi_pack.specs.Scalars.{is_value}
use Rattle.abi_layout.specs.Shape.{Shape, Shapes, fields, sum, repeated}
use Rattle.abi_pack.specs.Shows.{fits, fits_in, same_sort}
use Rattle.abi_layout.specs.Trees.{sides}
use Rattle.abi_pack.specs.View.{shape, shapes}
use Rattle.abi_layout.specs.declared.scalar.Scalar.{Scalar}
use Rattle.abi_layout.specs.declared.part.Compound.{Compound}
use Rattle.abi_layout.specs.declared.part.Compound.TheVariants as compound
use Rattle.abi_layout.specs.declared.part.Sort.{Sort}
use Rattle.abi_layout.specs.declared.part.SumLayout.{SumLayout}
use Rattle.abi_layout.specs.declared.part.PartField.{PartField}
use Rattle.abi_layout.specs.declared.part.Part.{Part}
use Rattle.abi_layout.specs.declared.part.Part.TheVariants as part
use Rattle.abi_pack.proofs.Views.{shape_scalar, shape_struct, shape_array, shape_sum}

pub fits_scalar : (c : Scalar) (v : Plain) → fits (shape (part.Scalar c)) v ≡ is_value c v
fits_scalar c v = rw (shape_scalar c) refl

pub fits_struct : (fs : List PartField) (n : ℕ) (v : Plain) (vs : Plains) → v ≡ list vs → fits (shape (part.Struct fs n)) v ≡ fits_in (shapes fs) vs
fits_struct fs n v vs e = rw (shape_struct fs n, e) refl

pub fits_array : (item : Box Part Global) (len n : ℕ) (v : Plain) (vs : Plains) → v ≡ list vs
    → fits (shape (part.Array item len n)) v ≡ fits_in (repeated len (shape item.value)) vs
fits_array item len n v vs e = rw (shape_array item len n, e) refl

pub fits_variant : (names kind : Sort) (a b : Box Part Global) (at : SumLayout) (v w : Plain) (first : Bool) → v ≡ variant kind first w
    → fits (shape (part.Sum names a b at)) v ≡ (same_sort names kind && fits (sides (shape a.value) (shape b.value) first) w)
fits_variant names kind a b at v w first e = rw (shape_sum names a b at, e) refl

no_list : (c : Compound) (n : ℕ) (fs : Shapes) (v : Plain) → is_list v ≡ false → fits (fields c n fs) v ≡ false
no_list c n fs (list vs) h = absurd (cc)
no_list c n fs _ h = refl

no_variant : (names : Sort) (side : Bool → Shape) (at : SumLayout) (v : Plain) → is_variant v ≡ false → fits (sum names side at) v ≡ false
no_variant names side at (variant kind first v) h = absurd (cc)
no_variant names side at _ h = refl

pub fits_no_list : (fs : List PartField) (n : ℕ) (v : Plain) → is_list v ≡ false → fits (shape (part.Struct fs n)) v ≡ false
fits_no_list fs n v h = rw (shape_struct fs n) (no_list compound.Struct n (shapes fs) v h)

pub fits_no_items : (item : Box Part Global) (len n : ℕ) (v : Plain) → is_list v ≡ false → fits (shape (part.Array item len n)) v ≡ false
fits_no_items item len n v h = rw (shape_array item len n) (no_list compound.Array n (repeated len (shape item.value)) v h)

pub fits_no_variant : (names : Sort) (a b : Box Part Global) (at : SumLayout) (v : Plain) → is_variant v ≡ false → fits (shape (part.Sum names a b at)) v ≡ false
fits_no_variant names a b at v h = rw (shape_sum names a b at) (no_variant names (sides (shape a.value) (shape b.value)) at v h)
