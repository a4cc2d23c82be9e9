-- The plain form of each kind of part and of value.
use Rattle.std.proofs.Common.{◌≡◌, ℕ, List, Bool, true, false, rules}
pub use Rattle.abi_layout.proofs.PartViews.{shape_scalar, shape_raw, shape_struct, shape_array, shape_sum}
use Rattle.std.specs.declared.boxed.Box.{Box}
use Rattle.std.specs.declared.alloc.Global.{Global}
use Rattle.std.specs.declared.cmp.Ordering.{Ordering}
use Rattle.abi_pack.specs.Plain.{unit, integer, boolean, order, bytes, list, variant}
use Rattle.abi_pack.specs.View.{plain, plains}
use Rattle.abi_layout.specs.declared.part.Sort.TheVariants as sort
use Rattle.abi_pack.specs.declared.value.Value.{Value, the_lemmas as value_lemmas}
use Rattle.abi_pack.specs.declared.value.Value.TheVariants as value

pub plain_unit : plain value.Unit ≡ unit
plain_unit = search (rules, value_lemmas)

pub plain_int : (magnitude : ℕ) (negative : Bool) → plain (value.Int magnitude negative) ≡ integer magnitude negative
plain_int magnitude negative = search (rules, value_lemmas)

pub plain_bool : (b : Bool) → plain (value.Bool b) ≡ boolean b
plain_bool b = search (rules, value_lemmas)

pub plain_order : (o : Ordering) → plain (value.Order o) ≡ order o
plain_order o = search (rules, value_lemmas)

pub plain_bytes : (xs : List ℕ) → plain (value.Bytes xs) ≡ bytes xs
plain_bytes xs = search (rules, value_lemmas)

pub plain_list : (vs : List Value) → plain (value.List vs) ≡ list (plains vs)
plain_list vs = search (rules, value_lemmas)

pub plain_ok : (v : Box Value Global) → plain (value.Ok v) ≡ variant sort.OfResult true (plain v.value)
plain_ok v = search (rules, value_lemmas)

pub plain_err : (v : Box Value Global) → plain (value.Err v) ≡ variant sort.OfResult false (plain v.value)
plain_err v = search (rules, value_lemmas)

pub plain_some : (v : Box Value Global) → plain (value.Some v) ≡ variant sort.OfOption true (plain v.value)
plain_some v = search (rules, value_lemmas)

pub plain_none : plain value.None ≡ variant sort.OfOption false unit
plain_none = search (rules, value_lemmas)
