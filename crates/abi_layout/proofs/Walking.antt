-- Steps of the walk that lays out a description.
use Rattle.std.proofs.Common.{◌≡◌, ℕ, ◌+◌, ◌-◌, ◌<◌, ◌≤◌, Bool, true, false, List, [], ◌∷◌, ◌++◌, length, Option, None, refl, ap, ◌∙◌, arith, append_assoc}
use Rattle.std.specs.Prelude.{insert, Result, Ok, Err, IfErr, IsErrAnd}
use Rattle.std.proofs.lemmas.List.Edits.{insert-append_right}
use Rattle.abi_num.specs.declared.target.Target.{Target}
use Rattle.abi_det.specs.Frame.{Frame, IsLawful}
use Rattle.abi_det.specs.Offers.{Rules}
use Rattle.abi_det.specs.SoundPlacement.{IsSoundPlacement}
use Rattle.abi_det.specs.Roles.{union_size}
use Rattle.abi_det.specs.Written.{written_placement, written_sum}
use Rattle.abi_det.specs.declared.placements.Placement.{Placement}
use Rattle.abi_det.proofs.Lawful.{size_bound}
use Rattle.abi_layout.specs.Trees.{Tree, Branches, prim, struct, array, union, sum, core, wrap, stable_if, pointer, no_niches, leaf, field, variant_parts, parts}
use Rattle.abi_layout.specs.Builders.{start_after}
use Rattle.abi_layout.specs.Faults.{IsFault, sum_fault, core_fault, part_fault}
use Rattle.abi_layout.specs.Frames.{written_frame}
use Rattle.abi_layout.specs.Plans.{sum_layout_at, sum_layout_of, shape_of, shapes_of, IsNamed, AreNamed}
use Rattle.abi_layout.specs.Sums.{numbered_placement, written_sums}
use Rattle.abi_layout.specs.Shape.{Shapes, last, field as behind}
use Rattle.abi_layout.specs.PartView.{shape, shapes}
use Rattle.abi_layout.specs.declared.desc_error.DescError.{DescError}
use Rattle.abi_layout.specs.declared.desc_error.DescError.TheVariants as fault
use Rattle.abi_layout.specs.declared.placed.Placed.{Placed}
use Rattle.abi_layout.specs.declared.part.PartField.{PartField}
use Rattle.abi_layout.specs.declared.part.Sort.{Sort}
use Rattle.abi_layout.proofs.Steps.{no_memory}

-- ---- fields

-- fields in front of others
abbrev pub fronted : List PartField → Shapes → Shapes
fronted [] rest = rest
fronted (p ∷ ps) rest = behind p.gap (shape p.part) (fronted ps rest)

fronted_more : (ps : List PartField) (p : PartField) (rest : Shapes) → fronted (ps ++ p ∷ []) rest ≡ fronted ps (behind p.gap (shape p.part) rest)
fronted_more [] p rest = refl
fronted_more (x ∷ xs) p rest = ap (behind x.gap (shape x.part)) (fronted_more xs p rest)

pub fronted_last : (ps : List PartField) → fronted ps last ≡ shapes ps
fronted_last [] = refl
fronted_last (p ∷ ps) = ap (behind p.gap (shape p.part)) (fronted_last ps)

-- one field more behind its gap
pub more_fields : (rules : Rules) (target : Target) (name : List ℕ) (t : Tree) (fs : Branches) (old new : List PartField) (p : PartField) (end start size : ℕ) (f : Frame) (all : Shapes)
    → new ≡ old ++ (p ∷ []) → p.gap ≡ start - end → shape p.part ≡ shape_of rules target t → f ≡ written_frame rules target t → start ≡ start_after end f → size ≡ f.size
    → fronted old (shapes_of rules target end (field name t fs)) ≡ all → fronted new (shapes_of rules target (start + size) fs) ≡ all
more_fields rules target name t fs old new p end start size f all en eg ep ef es ez h =
    rw (en, fronted_more old p (shapes_of rules target (start + size) fs), eg, ep, es, ez, ef) h

more_named : (ps : List PartField) (p : PartField) → AreNamed (shapes ps) → IsNamed (shape p.part) → AreNamed (shapes (ps ++ p ∷ []))
more_named [] p a n = (n, tt)
more_named (x ∷ xs) p a n = (a.0, more_named xs p a.1 n)

pub named_more : (old new : List PartField) (p : PartField) → new ≡ old ++ (p ∷ []) → AreNamed (shapes old) → IsNamed (shape p.part) → AreNamed (shapes new)
named_more old new p e a n = rw e (more_named old p a n)

pub more_frames : (old new rest all : List Frame) (x y : Frame) → new ≡ old ++ (x ∷ []) → x ≡ y → old ++ (y ∷ rest) ≡ all → new ++ rest ≡ all
more_frames old new rest all x y e same h = rw (e, append_assoc old (x ∷ []) rest, same) h

pub more_sums : (old new one rest all : List Placed) → new ≡ old ++ one → old ++ (one ++ rest) ≡ all → new ++ rest ≡ all
more_sums old new one rest all e h = rw (e, append_assoc old one rest) h

pub some_part : (t : Tree) → 0 < parts t
some_part (prim p) = omega arith
some_part (struct label fs align) = omega arith
some_part (array item len) = omega arith
some_part (union side) = omega arith
some_part (sum names side) = omega arith
some_part (core names side) = omega arith
some_part (wrap kind t) = omega arith
some_part (stable_if value condition) = omega arith
some_part (pointer kind t) = omega arith
some_part (no_niches size align niches indirections) = omega arith
some_part (leaf l) = omega arith

-- ---- sums

-- both variants of a sum start in its bytes
pub starts_inside : (rules : Rules) (ok err : Frame) (p : Placement) (whole : Frame) → IsSoundPlacement ok err p → p ≡ written_placement rules ok err → whole ≡ written_sum rules ok err → IsLawful whole
    → (p.front + p.ok_shift ≤ 1048576) × (p.front + p.err_shift ≤ 1048576)
unfolding written_sum
starts_inside rules ok err p whole sound e same lawful =
    let size : whole.size ≡ union_size ok err + p.front = rw e (ap (λ (f : Frame). f.size) same) in
    let small : whole.size ≤ 1048576 = size_bound whole lawful in
    (omega (arith, sound.ok_side.inside, size, small), omega (arith, sound.err_side.inside, size, small))

pub sum_layout_made : (rules : Rules) (ok err whole : Frame) (p : Placement) → p ≡ written_placement rules ok err → whole ≡ written_sum rules ok err
    → sum_layout_at whole.size p ≡ sum_layout_of rules ok err
unfolding written_sum
sum_layout_made rules ok err whole p e same = rw (same, e) refl

-- an item that is put where others begin
insert_between : (old others : List Placed) (x : Placed) (at : ℕ) → at ≡ length old → insert (old ++ others) at x ≡ old ++ (x ∷ others)
insert_between old others x at e =
    let none : at - length old ≡ 0 = omega arith in
    insert-append_right old others (length old) at x refl (omega arith) ∙ rw none refl

-- the sums of two parts, one after the other
pub sums_of_two : (rules : Rules) (target : Target) (side : Bool → Tree) (first next : ℕ) (old one two of_all : List Placed)
    → of_all ≡ written_sums rules target first (side true) ++ written_sums rules target (first + parts (side true)) (side false) → next ≡ first + parts (side true)
    → one ≡ old ++ written_sums rules target first (side true) → two ≡ one ++ written_sums rules target next (side false) → two ≡ old ++ of_all
sums_of_two rules target side first next old one two of_all all en first_ second =
    second ∙ rw (first_, all, ← en) (append_assoc old (written_sums rules target first (side true)) (written_sums rules target next (side false)))

-- the sums of a sum: its own before those of its variants
pub sums_of_sum : (rules : Rules) (target : Target) (t : Tree) (names : Sort) (side : Bool → Tree) (first next number at : ℕ) (f g : Frame) (old one two new : List Placed)
    → t ≡ sum names side → at ≡ length old → next ≡ first + parts (side true) → number ≡ first + variant_parts names (parts (side true)) (parts (side false))
    → f ≡ written_frame rules target (side true) → g ≡ written_frame rules target (side false)
    → one ≡ old ++ written_sums rules target first (side true) → two ≡ one ++ written_sums rules target next (side false)
    → new ≡ insert two at (numbered_placement number (written_placement rules f g)) → new ≡ old ++ written_sums rules target first t
sums_of_sum rules target t names side first next number at f g old one two new is ea en em ef eg first_ second put =
    let of_two = written_sums rules target first (side true) ++ written_sums rules target (first + parts (side true)) (side false) in
    let all : two ≡ old ++ of_two = sums_of_two rules target side first next old one two of_two refl en first_ second in
    put ∙ rw (all, insert_between old of_two (numbered_placement number (written_placement rules f g)) at ea, is, em, ef, eg) refl

-- ---- faults of sums

-- where neither variant has a fault, what is left is that of the sum itself
pub sum_left : (rules : Rules) (target : Target) (t : Tree) (names : Sort) (side : Bool → Tree) (first next number : ℕ) (f g : Frame)
    → t ≡ sum names side → next ≡ first + parts (side true) → number ≡ first + variant_parts names (parts (side true)) (parts (side false))
    → f ≡ written_frame rules target (side true) → g ≡ written_frame rules target (side false)
    → part_fault rules target first (side true) ≡ None → part_fault rules target next (side false) ≡ None
    → part_fault rules target first t ≡ sum_fault rules number f g
sum_left rules target t names side first next number f g is en em ef eg ok err = rw (is, ok, ← en, err, em, ef, eg) refl

pub core_left : (rules : Rules) (target : Target) (t : Tree) (names : Sort) (side : Bool → Tree) (first next number : ℕ) (f g : Frame)
    → t ≡ core names side → next ≡ first + parts (side true) → number ≡ first + variant_parts names (parts (side true)) (parts (side false))
    → f ≡ written_frame rules target (side true) → g ≡ written_frame rules target (side false)
    → part_fault rules target first (side true) ≡ None → part_fault rules target next (side false) ≡ None
    → part_fault rules target first t ≡ core_fault number f g
core_left rules target t names side first next number f g is en em ef eg ok err = rw (is, ok, ← en, err, em, ef, eg) refl

-- want of memory
pub memory_fault : {A : Type 0} (r : Result A DescError) (found : Option DescError) → IsErrAnd r (λ e. e ≡ fault.OutOfMemory) → IfErr r (IsFault found)
memory_fault (Ok x) found h = tt
memory_fault (Err e) found h = no_memory found e h
