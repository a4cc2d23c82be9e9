-- From what the functions compute to what an edit by a plan promises. q is the plan as it is kept, p as contracts see it.
use Rattle.std.proofs.Common.{◌≡◌, ℕ, ◌+◌, ◌<◌, ◌≤◌, List, [], ◌∷◌, length, Bool, true, false, Option, Some, None, ap, ◌∙◌, sym, subst}
use Rattle.abi_num.specs.declared.target.Target.{Target}
use Rattle.abi_det.specs.Offers.{Rules}
use Rattle.abi_layout.specs.Faults.{desc_fault}
use Rattle.abi_layout.specs.PartView.{shape}
use Rattle.abi_layout.specs.Plans.{shape_of}
use Rattle.abi_layout.specs.Shape.{Shape, size}
use Rattle.abi_layout.specs.Trees.{Tree}
use Rattle.abi_pack.specs.ByteMap.{ByteMap, AreBytes, seen_from, bytes_of}
use Rattle.abi_pack.specs.Edits.{Range, IsOutside, range_of, edited, edit_fault, IsEdited, IsEdit, IsRefused}
use Rattle.abi_pack.specs.Packing.{Packing, OfPlan, IsSomePlan}
use Rattle.abi_pack.specs.Plain.{Plain}
use Rattle.abi_pack.specs.Reading.{IsShown}
use Rattle.abi_pack.specs.ShapeEdits.{Inner, named, is_there, fault_by, shape_fault, reaches_in, reaches, shape_range, edited_value, patched}
use Rattle.abi_pack.specs.Shows as of_shape
use Rattle.abi_pack.specs.Values.{Shows, IsLong}
use Rattle.abi_pack.specs.declared.plan.EditError.{EditError}
use Rattle.abi_pack.specs.declared.step.Step.{Step}
use Rattle.abi_pack.proofs.Lawful.{formed, faultless_covered, faultless_shows}
use Rattle.abi_pack.proofs.Patching.{IsPatched, fits_if, patched_is}
use Rattle.abi_pack.proofs.TreeEdits.{followed}
use Rattle.abi_pack.proofs.TreeValues.{from_zero, same_size, same_holds}

-- ---- a path without a fault

found_reaches : (found : Option Inner) (there : Bool) (fault : Inner → Option EditError) (reach : Inner → Bool) → ((inner : Inner) → fault inner ≡ None → reach inner ≡ true)
    → fault_by found there fault ≡ None → reaches_in reach found ≡ true
found_reaches None there fault reach next none = absurd (cc)
found_reaches (Some inner) true fault reach next none = next inner none
found_reaches (Some inner) false fault reach next none = absurd (cc)

pub fault_reaches : (path : List Step) (w : Plain) (s : Shape) (f : ByteMap) → shape_fault s f path w ≡ None → reaches s path w ≡ true
fault_reaches [] w s f none = fits_if (of_shape.fits s w) none
fault_reaches (st ∷ path) w s f none =
    found_reaches (named s st) (is_there s f st) (λ inner. shape_fault inner.part (seen_from inner.start f) path w) (λ inner. reaches inner.part path w)
    (λ inner h. fault_reaches path w inner.part (seen_from inner.start f) h) none

-- ---- what the change leaves

pub patched_bytes : (rules : Rules) (target : Target) (t : Tree) (v : Plain) (path : List Step) (w : Plain) (old : List ℕ) → desc_fault rules target t ≡ None
    → IsLong rules target t old → AreBytes (bytes_of old) → Shows rules target t v (bytes_of old) → edit_fault rules target t v path w ≡ None
    → IsEdited rules target t v path w old (patched (shape_of rules target t) path w old)
patched_bytes rules target t v path w old faultless long bytes shown none =
    let s : Shape = shape_of rules target t in
    let is = followed rules target path w t v (bytes_of old) (formed rules target t faultless) bytes shown in
    let range : range_of rules target t v path ≡ shape_range s path = is.range none in
    let value : edited rules target t v path w ≡ edited_value v path w = is.value none in
    let now = (faultless_shows rules target t v (bytes_of old) faultless bytes).0 shown in
    let p : IsPatched s (edited_value v path w) (shape_range s path) old (patched s path w old) =
    patched_is path w s v (bytes_of old) old (faultless_covered rules target t faultless).sound bytes now (sym is.fault ∙ none) (long ∙ sym (same_size rules target t)) bytes now in
    record {
      long = p.long;
      bytes = p.small;
      outside = λ i out. p.outside i (subst (λ r. IsOutside r i) range out);
      shows = rw value ((faultless_shows rules target t (edited_value v path w) (bytes_of (patched s path w old)) faultless p.small).1 p.shows);
      clear = λ i k low high eight free.
          p.clear i k (subst (λ (r : Range). r.start ≤ i) range low) (subst (λ (r : Range). i < r.start + r.size) range high) eight
          (ap (λ x. of_shape.holds s x i k) (sym value) ∙ sym (same_holds rules target t (edited rules target t v path w) i k) ∙ free);
    }

-- ---- an edit by a plan

pub plan_shown_length : (q p : Packing) (bs : List ℕ) → q ≡ p → IsSomePlan q → OfPlan p (λ rules target t. IsShown rules target t bs) → length bs ≡ size (shape q.part)
plan_shown_length q p bs e some shown =
    let of = some.1.1.1 in
    let there = subst (λ x. OfPlan x (λ rules target t. IsShown rules target t bs)) (sym e) shown some.0 some.1.0 some.1.1.0 of in
    there.0 ∙ sym (same_size some.0 some.1.0 some.1.1.0) ∙ sym (ap size of.part)

plan_fault : (q p : Packing) (path : List Step) (w : Plain) (old : List ℕ) (found : Option EditError) → q ≡ p → AreBytes (bytes_of old)
    → found ≡ shape_fault (shape q.part) (seen_from 0 (bytes_of old)) path w
    → OfPlan p (λ rules target t. (v : Plain) → Shows rules target t v (bytes_of old) → edit_fault rules target t v path w ≡ found)
plan_fault q p path w old found e bytes is rules target t of v shown =
    let same : shape q.part ≡ shape_of rules target t = ap (λ (x : Packing). shape x.part) e ∙ of.part in
    (followed rules target path w t v (bytes_of old) (formed rules target t of.faultless) bytes shown).fault
    ∙ sym (is ∙ ap (λ f. shape_fault (shape q.part) f path w) (from_zero (bytes_of old)) ∙ ap (λ s. shape_fault s (bytes_of old) path w) same)

pub plan_refused : (q p : Packing) (path : List Step) (w : Plain) (old : List ℕ) (e : EditError) → q ≡ p → AreBytes (bytes_of old)
    → Some e ≡ shape_fault (shape q.part) (seen_from 0 (bytes_of old)) path w → OfPlan p (λ rules target t. IsRefused rules target t path w old e)
plan_refused q p path w old e same bytes is = plan_fault q p path w old (Some e) same bytes is

pub plan_edited : (q p : Packing) (path : List Step) (w : Plain) (old new : List ℕ) → q ≡ p → AreBytes (bytes_of old)
    → None ≡ shape_fault (shape q.part) (seen_from 0 (bytes_of old)) path w → OfPlan p (λ rules target t. IsShown rules target t old) → new ≡ patched (shape q.part) path w old
    → OfPlan p (λ rules target t. IsEdit rules target t path w old new)
plan_edited q p path w old new e bytes is shows_some change rules target t of v shown =
    let none : edit_fault rules target t v path w ≡ None = plan_fault q p path w old None e bytes is rules target t of v shown in
    let same : shape q.part ≡ shape_of rules target t = ap (λ (x : Packing). shape x.part) e ∙ of.part in
    let here : new ≡ patched (shape_of rules target t) path w old = change ∙ ap (λ s. patched s path w old) same in
    (none, rw here (patched_bytes rules target t v path w old of.faultless (shows_some rules target t of).0 bytes shown none))
