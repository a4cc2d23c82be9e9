-- The plain tree of a description, by variant.
use Rattle.std.proofs.Common.{◌≡◌, ℕ, Bool, suc, ◌+◌, ◌<◌, List, ◌∷◌, Option, length, get_or, drop, refl, sym, ap, ◌∙◌, arith, drop-cons, rules}
use Rattle.std.specs.declared.boxed.Box.{Box}
use Rattle.std.specs.declared.alloc.Global.{Global}
use Rattle.abi_bits.specs.declared.saturating_add_value.SaturatingAddValue.{SaturatingAddValue}
use Rattle.abi_layout.specs.declared.prim.Primitive.{Primitive}
use Rattle.abi_layout.specs.declared.desc.Desc.{Desc, the_lemmas}
use Rattle.abi_layout.specs.declared.desc.Desc.TheVariants as desc
use Rattle.abi_layout.specs.declared.desc.Field.{Field}
use Rattle.abi_layout.specs.declared.desc.LeafDesc.{LeafDesc}
use Rattle.abi_layout.specs.declared.desc.PointerKind.{PointerKind}
use Rattle.abi_layout.specs.declared.desc.WrapKind.{WrapKind}
use Rattle.abi_layout.specs.Trees.{tree, branches, sides, prim, struct, array, union, result, option, core_result, core_option, wrap, stable_if, pointer, no_niches, leaf, field}

pub tree_prim : (p : Primitive) → tree (desc.Prim p) ≡ prim p
tree_prim p = search (rules, the_lemmas)

pub tree_struct : (name module_name : List ℕ) (version : ℕ) (fs : List Field) (align : Option ℕ)
    → tree (desc.Struct name module_name version fs align) ≡ struct (record { name = name; module_name = module_name; version = version }) (branches fs) align
tree_struct name module_name version fs align = search (rules, the_lemmas)

pub tree_result : (ok err : Box Desc Global) → tree (desc.Result ok err) ≡ result (tree ok.value) (tree err.value)
tree_result ok err = search (rules, the_lemmas)

pub tree_option : (some : Box Desc Global) → tree (desc.Option some) ≡ option (tree some.value)
tree_option some = search (rules, the_lemmas)

pub tree_array : (item : Box Desc Global) (len : ℕ) → tree (desc.Array item len) ≡ array (tree item.value) len
tree_array item len = search (rules, the_lemmas)

pub tree_union : (ok err : Box Desc Global) → tree (desc.Union ok err) ≡ union (sides (tree ok.value) (tree err.value))
tree_union ok err = search (rules, the_lemmas)

pub tree_core_option : (some : Box Desc Global) → tree (desc.CoreOption some) ≡ core_option (tree some.value)
tree_core_option some = search (rules, the_lemmas)

pub tree_core_result : (ok err : Box Desc Global) → tree (desc.CoreResult ok err) ≡ core_result (tree ok.value) (tree err.value)
tree_core_result ok err = search (rules, the_lemmas)

pub tree_wrap : (kind : WrapKind) (inner : Box Desc Global) → tree (desc.Wrap kind inner) ≡ wrap kind (tree inner.value)
tree_wrap kind inner = search (rules, the_lemmas)

pub tree_stable_if : (value condition : Box Desc Global) → tree (desc.StableIf value condition) ≡ stable_if (tree value.value) (tree condition.value)
tree_stable_if value condition = search (rules, the_lemmas)

pub tree_pointer : (kind : PointerKind) (pointee : Box Desc Global) → tree (desc.Pointer kind pointee) ≡ pointer kind (tree pointee.value)
tree_pointer kind pointee = search (rules, the_lemmas)

pub tree_no_niches : (size align : ℕ) (niches : SaturatingAddValue) (indirections : Bool)
    → tree (desc.NoNiches size align niches indirections) ≡ no_niches size align niches indirections
tree_no_niches size align niches indirections = search (rules, the_lemmas)

pub tree_leaf : (l : LeafDesc) → tree (desc.Leaf l) ≡ leaf l
tree_leaf l = search (rules, the_lemmas)

pub branches_at : (fs : List Field) (i : ℕ) (x : Field) → i < length fs → x ≡ get_or fs i x → branches (drop i fs) ≡ field x.name (tree x.ty) (branches (drop (i + 1) fs))
branches_at fs i x lt q =
    let s : i + 1 ≡ suc i = omega arith in
    let c : drop i fs ≡ x ∷ drop (suc i) fs = drop-cons fs i x lt ∙ ap (λ y. y ∷ drop (suc i) fs) (sym q) in
    rw (s, c) refl
