-- One field more of a struct that is built, and what its faults are.
use Rattle.std.proofs.Common.{◌≡◌, ℕ, suc, ◌+◌, ◌<◌, ◌≤◌, true, false, List, [], ◌∷◌, Option, Some, None, length, get_or, drop, ltb, refl, sym, ap, ◌∙◌, subst, arith, drop-cons}
use Rattle.std.proofs.lemmas.Bool.{lt-ltb, le-ltb}
use Rattle.abi_det.specs.Frame.{Frame, IsLawful}
use Rattle.abi_det.specs.Offers.{Rules, or_else}
use Rattle.abi_det.specs.Roles.{union_size}
use Rattle.abi_det.specs.Written.{written_placement, written_sum}
use Rattle.abi_det.specs.declared.placements.Placement.{Placement}
use Rattle.std.specs.Option.{MatchOption}
use Rattle.abi_det.specs.FrameOf.{frame}
use Rattle.abi_det.specs.declared.raw_layout.RawLayout.{RawLayout}
use Rattle.abi_det.proofs.Lawful.{parts as lawful_parts}
use Rattle.abi_layout.specs.declared.desc_error.DescError.{DescError}
use Rattle.abi_layout.specs.declared.desc_error.DescError.TheVariants as fault
use Rattle.abi_layout.specs.Builders.{start_after, IsOpen, pair}
use Rattle.abi_layout.specs.Structs.{end_of, struct_frame}
use Rattle.abi_layout.specs.Folds.{folded, opened, closed_by, AreLawful}
use Rattle.abi_num.specs.Target.{is_row}
use Rattle.abi_num.specs.declared.target.Target.{Target}
use Rattle.abi_layout.specs.Trees.{Tree, parts}
use Rattle.abi_layout.specs.Faults.{IsFault, part_fault, desc_fault, size_fault, align_fault, struct_fault, sum_fault}
use Rattle.abi_layout.proofs.Folding.{all_parts, end_least, first_end, lawful_keeps, fold_is_struct}
use Rattle.abi_layout.proofs.Faultless.{right_request, closed_by_lawful, struct_end}

field_at : (fs : List Frame) (i : ℕ) (x : Frame) → i < length fs → x ≡ get_or fs i x → drop i fs ≡ x ∷ drop (i + 1) fs
field_at fs i x lt q = let s : i + 1 ≡ suc i = omega arith in rw s (drop-cons fs i x lt ∙ ap (λ y. y ∷ drop (suc i) fs) (sym q))

pub fold_more : (raw made x whole : Frame) (fs : List Frame) (i : ℕ) → i < length fs → x ≡ get_or fs i x → made ≡ pair raw x
    → folded raw (drop i fs) ≡ whole → folded made (drop (i + 1) fs) ≡ whole
fold_more raw made x whole fs i lt q e h = let c = field_at fs i x lt q in rw e (rw c at h)

pub end_more : (raw made x : Frame) (fs : List Frame) (i whole : ℕ) → i < length fs → x ≡ get_or fs i x → made ≡ pair raw x
    → end_of raw.size (drop i fs) ≡ whole → end_of made.size (drop (i + 1) fs) ≡ whole
unfolding pair
end_more raw made x fs i whole lt q e h = let c = field_at fs i x lt q in rw e (rw c at h)

pub lawful_more : (x : Frame) (fs : List Frame) (i : ℕ) → i < length fs → x ≡ get_or fs i x → AreLawful (drop i fs) → IsLawful x × AreLawful (drop (i + 1) fs)
lawful_more x fs i lt q l = let c = field_at fs i x lt q in all_parts x (drop (i + 1) fs) (rw c at l)

pub too_far : (size whole end : ℕ) (x : Frame) (fs : List Frame) (i : ℕ) → i < length fs → x ≡ get_or fs i x → end_of size (drop i fs) ≡ whole
    → end ≡ start_after size x + x.size → 1048576 < end → 1048576 < whole
too_far size whole end x fs i lt q h is far =
    let c = field_at fs i x lt q in
    let e : end_of (start_after size x + x.size) (drop (i + 1) fs) ≡ whole = rw c at h in
    omega (arith, e, is, far, end_least (start_after size x + x.size) (drop (i + 1) fs))

pub first_end_of : (x : Frame) (fs all : List Frame) → all ≡ x ∷ fs → AreLawful all → end_of x.size fs ≡ end_of 0 all
first_end_of x fs all q l =
    let k = lawful_keeps x (all_parts x fs (rw q at l)).0 in
    rw q (sym (first_end x fs k.positive))

-- the first field and the others make the struct of all
pub struct_opened : (first : Frame) (others fields : List Frame) (raw : RawLayout) (found : Option RawLayout) → fields ≡ first ∷ others → frame raw ≡ first → AreLawful fields
    → MatchOption found (1048576 < end_of raw.size others) (λ whole. (frame whole ≡ folded (frame raw) others) × IsOpen (frame whole))
    → MatchOption found (1048576 < end_of 0 fields) (λ whole. (frame whole ≡ opened fields) × IsOpen (frame whole))
struct_opened first others fields raw None q e l h =
    let size : raw.size ≡ first.size = ap (λ (f : Frame). f.size) e in
    omega (arith, rw size at h, first_end_of first others fields q l)
struct_opened first others fields raw (Some whole) q e l h = (h.0 ∙ ap (λ f. folded f others) e ∙ sym (ap opened q), h.1)

pub small_fault : (part : ℕ) (f : Frame) → f.size ≤ 1048576 → size_fault part f ≡ None
small_fault part f le = let e : ltb 1048576 f.size ≡ false = le-ltb 1048576 f.size le in rw e refl

pub large_fault : (part : ℕ) (f : Frame) → 1048576 < f.size → size_fault part f ≡ Some (fault.TooLarge part)
large_fault part f lt = let e : ltb 1048576 f.size ≡ true = lt-ltb 1048576 f.size lt in rw e refl

pub struct_made : (fs : List Frame) (align found : Option ℕ) (raw made : Frame) → AreLawful fs → found ≡ align → raw ≡ opened fs → made ≡ closed_by found raw → made ≡ struct_frame fs align
struct_made fs align found raw made l q e m = m ∙ rw (q, e) (fold_is_struct fs align l)

pub struct_fits : (part : ℕ) (fs : List Frame) (align : Option ℕ) (raw : Frame) → AreLawful fs → align_fault part align ≡ None → raw ≡ opened fs → IsOpen raw
    → struct_fault part fs align ≡ None
struct_fits part fs align raw l a e o =
    let lawful : IsLawful (struct_frame fs align) = subst IsLawful (fold_is_struct fs align l) (closed_by_lawful (opened fs) align (subst IsOpen e o) (right_request part align a)) in
    rw a (small_fault part (struct_frame fs align) (lawful_parts (struct_frame fs align) lawful).size)

pub struct_large : (part : ℕ) (fs : List Frame) (align : Option ℕ) → align_fault part align ≡ None → 1048576 < end_of 0 fs
    → struct_fault part fs align ≡ Some (fault.TooLarge part)
struct_large part fs align a far = rw a (large_fault part (struct_frame fs align) (omega (arith, far, struct_end fs align)))

pub struct_ill : (part : ℕ) (fs : List Frame) (align : Option ℕ) (e : DescError) → align_fault part align ≡ Some e → struct_fault part fs align ≡ Some e
struct_ill part fs align e a = rw a refl

pub sum_small : (rules : Rules) (part : ℕ) (ok err : Frame) (p : Placement) (n : ℕ) → p ≡ written_placement rules ok err → n ≡ union_size ok err + p.front → n ≤ 1048576
    → sum_fault rules part ok err ≡ None
unfolding written_sum
sum_small rules part ok err p n q e le = small_fault part (written_sum rules ok err) (rw (← q, ← e) le)

pub sum_large : (rules : Rules) (part : ℕ) (ok err : Frame) (p : Placement) (n : ℕ) → p ≡ written_placement rules ok err → n ≡ union_size ok err + p.front → 1048576 < n
    → sum_fault rules part ok err ≡ Some (fault.TooLarge part)
unfolding written_sum
sum_large rules part ok err p n q e lt = large_fault part (written_sum rules ok err) (rw (← q, ← e) lt)

-- want of memory needs no fault
pub no_memory : (found : Option DescError) (e : DescError) → e ≡ fault.OutOfMemory → IsFault found e
no_memory found e q = λ ne. absurd (ne q)

-- the first fault of two is the first one's
pub fault_first : (found rest whole : Option DescError) (e : DescError) → or_else found rest ≡ whole → IsFault found e → IsFault whole e
fault_first found rest whole e q h = λ ne. sym q ∙ (let s : found ≡ Some e = h ne in rw s refl)

-- where the first is none, it is the second one's
pub fault_next : (found rest whole : Option DescError) (e : DescError) → or_else found rest ≡ whole → found ≡ None → IsFault rest e → IsFault whole e
fault_next found rest whole e q none h = λ ne. sym q ∙ rw none (h ne)

pub bad_target : (rules : Rules) (target : Target) (t : Tree) → is_row target ≡ false → desc_fault rules target t ≡ Some fault.BadTarget
unfolding desc_fault
bad_target rules target t e = rw e refl

pub too_many : (rules : Rules) (target : Target) (t : Tree) → is_row target ≡ true → 4096 < parts t → desc_fault rules target t ≡ Some fault.TooManyParts
unfolding desc_fault
too_many rules target t e lt = let n : ltb 4096 (parts t) ≡ true = lt-ltb 4096 (parts t) lt in rw (e, n) refl

pub then_parts : (rules : Rules) (target : Target) (t : Tree) → is_row target ≡ true → parts t ≤ 4096 → desc_fault rules target t ≡ part_fault rules target 0 t
unfolding desc_fault
then_parts rules target t e le = let n : ltb 4096 (parts t) ≡ false = le-ltb 4096 (parts t) le in rw (e, n) refl

-- no fault
pub faultless : (rules : Rules) (target : Target) (t : Tree) → is_row target ≡ true → parts t ≤ 4096 → part_fault rules target 0 t ≡ None → desc_fault rules target t ≡ None
faultless rules target t e le none = then_parts rules target t e le ∙ none

pub no_fields : (fs : List Frame) → length fs ≡ 0 → fs ≡ []
no_fields [] e = refl
no_fields (f ∷ fs) e = absurd (omega arith)
