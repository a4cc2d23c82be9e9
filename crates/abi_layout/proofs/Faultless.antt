-- What it means that a part has no fault: its form, its stability, its size; and that the frame of a struct is lawful then.
use Rattle.std.proofs.Common.{◌≡◌, ℕ, ◌+◌, ◌≤◌, Bool, true, false, List, [], ◌∷◌, Option, Some, None, ltb, refl, inl, inr, arith, IsTrue, subst}
use lib.Count.{ones}
use Rattle.std.proofs.lemmas.Bool.{ltb-false, cases_Bool}
use Rattle.abi_num.specs.Alignment.{is_alignment, IsAlignment}
use Rattle.abi_det.specs.Frame.{Frame, IsLawful}
use Rattle.abi_num.specs.declared.target.Target.{Target}
use Rattle.abi_det.specs.Offers.{Rules, or_else}
use Rattle.abi_layout.specs.declared.desc_error.DescError.{DescError}
use Rattle.abi_layout.specs.declared.desc_error.DescError.TheVariants as fault
use Rattle.abi_layout.specs.Builders.{start_after, IsOpen, pair}
use Rattle.abi_layout.specs.Structs.{end_of, struct_frame}
use Rattle.abi_layout.specs.Folds.{folded, no_bytes, opened, closed_by, AreLawful}
use Rattle.abi_layout.specs.CoreSums.{is_core_sum}
use Rattle.abi_layout.specs.Faults.{unless, size_fault, align_fault, form_fault, stability_fault, own_fault, part_fault}
use Rattle.abi_layout.specs.Forms.{form_of}
use Rattle.abi_layout.specs.Frames.{written_frame}
use Rattle.abi_layout.specs.Leaves.{is_leaf, leaf_frame}
use Rattle.abi_layout.specs.Prims.{is_form}
use Rattle.abi_layout.specs.Trees as trees
use Rattle.abi_layout.specs.Trees.{Tree, parts, variant_parts}
use Rattle.abi_layout.specs.declared.desc.LeafDesc.{LeafDesc}
use Rattle.abi_layout.specs.declared.part.Sort.{Sort}
use Rattle.abi_layout.specs.declared.prim.Primitive.{Primitive}
use Rattle.abi_layout.proofs.Folding.{lawful_keeps, all_parts, end_least, first_end, fold_is_struct}
use Rattle.abi_layout.proofs.Opening.{lawful_is_open, pair_open, closed_lawful, closed_at_lawful}

-- the first of two faults is none where neither is
pub no_fault : (a b : Option DescError) → or_else a b ≡ None → (a ≡ None) × (b ≡ None)
no_fault None b e = (refl, e)
no_fault (Some x) b e = absurd (cc)

some_fault : (x : DescError) → ◌≡◌ {A = Option DescError} (Some x) None → ⊥
some_fault x e = cc

pub small_enough : (part : ℕ) (f : Frame) → size_fault part f ≡ None → f.size ≤ 1048576
small_enough part f h = elim (cases_Bool (ltb 1048576 f.size)) [
  | inl big ↦ absurd (some_fault (fault.TooLarge part) (rw big at h))
  | inr small ↦ ltb-false 1048576 f.size small
]

pub held : (b : Bool) (found : DescError) → unless b found ≡ None → b ≡ true
held true found h = refl
held false found h = absurd (some_fault found h)

-- ---- a part itself

pub record IsFaultless (rules : Rules) (target : Target) (part : ℕ) (t : Tree) : Type 0 where
  pub form : form_fault target part t ≡ None
  pub stable : stability_fault rules target part t ≡ None
  pub small : (written_frame rules target t).size ≤ 1048576

pub own : (rules : Rules) (target : Target) (part : ℕ) (t : Tree) → own_fault rules target part t ≡ None → IsFaultless rules target part t
own rules target part t h =
    let whole = size_fault part (written_frame rules target t) in
    let a = no_fault (form_fault target part t) (or_else (stability_fault rules target part t) whole) h in
    let b = no_fault (stability_fault rules target part t) whole a.1 in
    record { form = a.0; stable = b.0; small = small_enough part (written_frame rules target t) b.1 }

-- a part after what is in it
pub after_one : (a : Option DescError) (rules : Rules) (target : Target) (part : ℕ) (t : Tree) → or_else a (own_fault rules target part t) ≡ None
    → (a ≡ None) × IsFaultless rules target part t
after_one a rules target part t h = let p = no_fault a (own_fault rules target part t) h in (p.0, own rules target part t p.1)

pub after_two : (a b : Option DescError) (rules : Rules) (target : Target) (part : ℕ) (t : Tree) → or_else a (or_else b (own_fault rules target part t)) ≡ None
    → (a ≡ None) × (b ≡ None) × IsFaultless rules target part t
after_two a b rules target part t h =
    let p = no_fault a (or_else b (own_fault rules target part t)) h in
    let q = after_one b rules target part t p.1 in
    (p.0, q.0, q.1)

pub small_faultless : (rules : Rules) (target : Target) (first : ℕ) (t : Tree) → part_fault rules target first t ≡ None → (written_frame rules target t).size ≤ 1048576
small_faultless rules target first (trees.prim p) h = (own rules target first (trees.prim p) h).small
small_faultless rules target first (trees.struct label fs align) h = (after_one _ rules target _ (trees.struct label fs align) h).1.small
small_faultless rules target first (trees.array item len) h = (after_one _ rules target _ (trees.array item len) h).1.small
small_faultless rules target first (trees.union side) h = (after_two _ _ rules target _ (trees.union side) h).2.small
small_faultless rules target first (trees.sum names side) h = (after_two _ _ rules target _ (trees.sum names side) h).2.small
small_faultless rules target first (trees.core names side) h = (after_two _ _ rules target _ (trees.core names side) h).2.small
small_faultless rules target first (trees.wrap kind t) h = (after_one _ rules target _ (trees.wrap kind t) h).1.small
small_faultless rules target first (trees.stable_if value condition) h = (after_two _ _ rules target _ (trees.stable_if value condition) h).2.small
small_faultless rules target first (trees.pointer kind t) h = (after_one _ rules target _ (trees.pointer kind t) h).1.small
small_faultless rules target first (trees.no_niches size align niches indirections) h = (own rules target first (trees.no_niches size align niches indirections) h).small
small_faultless rules target first (trees.leaf l) h = (own rules target first (trees.leaf l) h).small

-- ---- what the form of a part says, and the stability of a sum of the compiler

pub core_faultless : (rules : Rules) (target : Target) (first : ℕ) (names : Sort) (side : Bool → Tree) → part_fault rules target first (trees.core names side) ≡ None
    → (part_fault rules target first (side true) ≡ None) × (part_fault rules target (first + parts (side true)) (side false) ≡ None)
    × (is_core_sum (written_frame rules target (side true)) (written_frame rules target (side false)) ≡ true)
core_faultless rules target first names side h =
    let part : ℕ = first + variant_parts names (parts (side true)) (parts (side false)) in
    let p = after_two _ _ rules target part (trees.core names side) h in
    (p.0, p.1, held (is_core_sum (written_frame rules target (side true)) (written_frame rules target (side false))) (fault.NotStable part) p.2.stable)

pub leaf_faultless : (rules : Rules) (target : Target) (first : ℕ) (l : LeafDesc) → part_fault rules target first (trees.leaf l) ≡ None
    → (is_leaf l ≡ true) × (l.size ≤ 1048576)
unfolding leaf_frame
leaf_faultless rules target first l h =
    let p = own rules target first (trees.leaf l) h in
    (held (is_leaf l) (fault.IllFormed first) p.form, p.small)

pub prim_faultless : (rules : Rules) (target : Target) (first : ℕ) (p : Primitive) → part_fault rules target first (trees.prim p) ≡ None → is_form target (form_of p) ≡ true
prim_faultless rules target first p h = held (is_form target (form_of p)) (fault.IllFormed first) (own rules target first (trees.prim p) h).form

-- a request that is no fault is an alignment
abbrev pub IsRequest : Option ℕ → Type 0
IsRequest None = IsTrue true
IsRequest (Some align) = IsAlignment align

pub right_request : (part : ℕ) (align : Option ℕ) → align_fault part align ≡ None → IsRequest align
right_request part None h = refl
right_request part (Some align) h = elim (cases_Bool (is_alignment align)) [
  | inl sound ↦ sound
  | inr bad ↦ absurd (some_fault (fault.IllFormed part) (rw bad at h))
]

folded_open : (a : Frame) (fs : List Frame) → IsOpen a → AreLawful fs → end_of a.size fs ≤ 1048576 → IsOpen (folded a fs)
unfolding pair
folded_open a [] o l small = o
folded_open a (f ∷ fs) o l small =
    let p = all_parts f fs l in
    folded_open (pair a f) fs (pair_open a f o p.0 (omega (arith, small, end_least (start_after a.size f + f.size) fs))) p.1 small

pub no_bytes_open : IsOpen no_bytes
unfolding ones
no_bytes_open = refl

opened_open : (fs : List Frame) → AreLawful fs → end_of 0 fs ≤ 1048576 → IsOpen (opened fs)
opened_open [] l small = no_bytes_open
opened_open (f ∷ fs) l small =
    let p = all_parts f fs l in
    let k = lawful_keeps f p.0 in
    folded_open f fs (lawful_is_open f p.0) p.1 (omega (arith, small, first_end f fs k.positive))

pub closed_by_lawful : (f : Frame) (align : Option ℕ) → IsOpen f → IsRequest align → IsLawful (closed_by align f)
closed_by_lawful f None o r = closed_lawful f o
closed_by_lawful f (Some align) o r = closed_at_lawful f align o r

pub struct_end : (fs : List Frame) (align : Option ℕ) → end_of 0 fs ≤ (struct_frame fs align).size
unfolding struct_frame
struct_end fs align = omega arith

-- a struct of lawful fields that is small enough is lawful
pub struct_lawful : (fs : List Frame) (align : Option ℕ) → AreLawful fs → IsRequest align → (struct_frame fs align).size ≤ 1048576 → IsLawful (struct_frame fs align)
struct_lawful fs align l r small =
    subst IsLawful (fold_is_struct fs align l) (closed_by_lawful (opened fs) align (opened_open fs l (omega (arith, small, struct_end fs align))) r)
