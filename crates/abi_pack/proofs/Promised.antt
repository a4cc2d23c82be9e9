-- What the faults of a job are, and its image.
use Rattle.std.proofs.Common.{◌≡◌, ℕ, ◌+◌, true, false, Bool, cond, List, [], ◌∷◌, Option, Some, None, refl, ◌∙◌, sym}
use Rattle.std.specs.Option.{option_map}
use Rattle.std.specs.Prelude.{Result, Ok, Err, IfErr, IsErrAnd}
use Rattle.abi_num.specs.declared.target.Target.{Target}
use Rattle.abi_det.specs.Offers.{or_else, Rules}
use Rattle.abi_layout.specs.Faults.{IsFault, desc_fault}
use Rattle.abi_layout.specs.PartView.{shape}
use Rattle.abi_layout.specs.Plans.{shape_of}
use Rattle.abi_layout.specs.Trees.{Tree}
use Rattle.abi_layout.specs.declared.desc_error.DescError.{DescError}
use Rattle.abi_layout.specs.declared.desc_error.DescError.TheVariants as of_desc
use Rattle.abi_pack.specs.ByteMap.{bytes_of}
use Rattle.abi_pack.specs.EditLists.{PlainEdit, edits_left}
use Rattle.abi_pack.specs.Edits.{edited, edit_fault}
use Rattle.abi_pack.specs.Jobs.{of_description, edits_fault, AreEditsOf, AreRefused, job_fault, value_fault, IsJobFault, image_of}
use Rattle.abi_pack.specs.Laws.{ImageLaw}
use Rattle.abi_pack.specs.Packed.{packed}
use Rattle.abi_pack.specs.Packing.{Packing, IsPlanOf, OfPlan}
use Rattle.abi_pack.specs.Plain.{Plain}
use Rattle.abi_pack.specs.Reading.{IsShown}
use Rattle.abi_pack.specs.Values.{fits, IsImageOf}
use Rattle.abi_pack.specs.declared.abi_error.AbiError.{AbiError}
use Rattle.abi_pack.specs.declared.abi_error.AbiError.TheVariants as fault
use Rattle.abi_pack.specs.declared.image.Image.{Image}
use Rattle.abi_pack.proofs.EditSteps.{no_faults, edits_canonical}
use Rattle.abi_pack.proofs.Lawful.{packed_image, one_image, fit_law}
use Rattle.abi_pack.proofs.PlanEdits.{patched_bytes}

memory_stays : (e : DescError) → e ≡ of_desc.OutOfMemory → of_description e ≡ fault.OutOfMemory
memory_stays e q = rw q refl

-- a fault of the description is the job's
desc_to_job : (rules : Rules) (target : Target) (t : Tree) (v : Plain) (es : List PlainEdit) (e : DescError) (error : AbiError) → IsFault (desc_fault rules target t) e → error ≡ of_description e
    → IsJobFault (job_fault rules target t v es) error
unfolding job_fault
desc_to_job rules target t v es e error h q = λ ne.
    let found : desc_fault rules target t ≡ Some e = h (λ m. ne (q ∙ memory_stays e m)) in rw (found, q) refl

pub desc_to_run : {A : Type 0} (rules : Rules) (target : Target) (t : Tree) (v : Plain) (es : List PlainEdit) (e : DescError) (r : Result A AbiError) → IsFault (desc_fault rules target t) e
    → IsErrAnd r (λ error. error ≡ of_description e) → IfErr r (IsJobFault (job_fault rules target t v es))
desc_to_run rules target t v es e (Ok x) h is = tt
desc_to_run rules target t v es e (Err error) h is = desc_to_job rules target t v es e error h is

pub wrong_value : (p : Packing) (rules : Rules) (target : Target) (t : Tree) (v : Plain) (es : List PlainEdit) → IsPlanOf p rules target t → OfPlan p (λ rules target t. false ≡ fits rules target t v)
    → job_fault rules target t v es ≡ Some fault.WrongValue
unfolding job_fault
wrong_value p rules target t v es of other = rw (of.faultless, ← other rules target t of) refl

edited_fault : (p : Packing) (rules : Rules) (target : Target) (t : Tree) (v : Plain) (es : List PlainEdit) (found : Option AbiError) → IsPlanOf p rules target t
    → OfPlan p (λ rules target t. true ≡ fits rules target t v) → edits_fault rules target t v 0 es ≡ found → job_fault rules target t v es ≡ found
unfolding job_fault
edited_fault p rules target t v es found of fit is = rw (of.faultless, ← fit rules target t of, is) refl

pub image_made : (p : Packing) (rules : Rules) (target : Target) (t : Tree) (v : Plain) (bytes : List ℕ) → IsPlanOf p rules target t → bytes ≡ packed (shape p.part) v
    → ◌≡◌ {A = Image} (record { layout = p.layout; placed = p.sums; bytes = bytes }) (image_of rules target t v)
unfolding image_of
image_made p rules target t v bytes of is = rw (is, of.part, of.layout, of.sums) refl

-- the bytes that edits leave of a value's canonical bytes
pub record IsMade (p : Packing) (rules : Rules) (target : Target) (t : Tree) (v : Plain) (es : List PlainEdit) (new : List ℕ) : Type 0 where
  pub faultless : job_fault rules target t v es ≡ None
  pub canonical : IsImageOf rules target t (edits_left rules target t v es) new
  pub image : ◌≡◌ {A = Image} (record { layout = p.layout; placed = p.sums; bytes = new }) (image_of rules target t (edits_left rules target t v es))

packed_canonical : (p : Packing) (rules : Rules) (target : Target) (t : Tree) (v : Plain) (bytes : List ℕ) → IsPlanOf p rules target t
    → OfPlan p (λ rules target t. true ≡ fits rules target t v) → bytes ≡ packed (shape p.part) v → IsImageOf rules target t v bytes
packed_canonical p rules target t v bytes of fit is = rw (is, of.part) (packed_image rules target t v of.faultless (sym (fit rules target t of)))

image_bytes : (p : Packing) (rules : Rules) (target : Target) (t : Tree) (v : Plain) (bytes : List ℕ) → IsPlanOf p rules target t → IsImageOf rules target t v bytes
    → bytes ≡ packed (shape p.part) v
image_bytes p rules target t v bytes of image =
    let fit = fit_law rules target t v (bytes_of bytes) of.faultless image.bytes image.canonical.shows in
    rw of.part (one_image rules target t v bytes (packed (shape_of rules target t) v) of.faultless image (packed_image rules target t v of.faultless fit))

-- canonical bytes show a value
pub packed_shown : (p : Packing) (v : Plain) (bytes : List ℕ) → OfPlan p (λ rules target t. true ≡ fits rules target t v) → bytes ≡ packed (shape p.part) v
    → OfPlan p (λ rules target t. IsShown rules target t bytes)
packed_shown p v bytes fit is rules target t of =
    let image = packed_canonical p rules target t v bytes of fit is in (image.long, (v, image.canonical.shows))

pub run_done : (p : Packing) (rules : Rules) (target : Target) (t : Tree) (v : Plain) (es : List PlainEdit) (old new : List ℕ) → IsPlanOf p rules target t
    → OfPlan p (λ rules target t. true ≡ fits rules target t v) → old ≡ packed (shape p.part) v → OfPlan p (λ rules target t. AreEditsOf rules target t es old new)
    → IsMade p rules target t v es new
run_done p rules target t v es old new of fit is done =
    let image = packed_canonical p rules target t v old of fit is in
    let edits = done rules target t of v image.canonical.shows in
    let canonical = edits_canonical rules target t es v 0 old new of.faultless image edits.0 edits.1 in
    record {
      faultless = edited_fault p rules target t v es None of fit edits.0;
      canonical = canonical;
      image = image_made p rules target t (edits_left rules target t v es) new of (image_bytes p rules target t (edits_left rules target t v es) new of canonical);
    }

pub run_refused : (p : Packing) (rules : Rules) (target : Target) (t : Tree) (v : Plain) (es : List PlainEdit) (old : List ℕ) (error : AbiError) → IsPlanOf p rules target t
    → OfPlan p (λ rules target t. true ≡ fits rules target t v) → old ≡ packed (shape p.part) v → OfPlan p (λ rules target t. AreRefused rules target t es old error)
    → IsJobFault (job_fault rules target t v es) error
run_refused p rules target t v es old error of fit is refused _ =
    let image = packed_canonical p rules target t v old of fit is in
    edited_fault p rules target t v es (Some error) of fit (refused rules target t of v image.canonical.shows)

-- ---- the law

neither : {A : Type 0} (a b : Option A) → or_else a b ≡ None → (a ≡ None) × (b ≡ None)
neither None b e = (refl, e)
neither (Some x) b e = absurd (cc)

unmapped : {A B : Type 0} (f : A → B) (a : Option A) → option_map f a ≡ None → a ≡ None
unmapped f None e = refl
unmapped f (Some x) e = absurd (cc)

fits_if : (b : Bool) → cond b None (Some fault.WrongValue) ≡ None → b ≡ true
fits_if true e = refl
fits_if false e = absurd (cc)

-- what edits leave fits
left_fits : (rules : Rules) (target : Target) (t : Tree) (es : List PlainEdit) (v : Plain) (n : ℕ) → desc_fault rules target t ≡ None → fits rules target t v ≡ true
    → edits_fault rules target t v n es ≡ None → fits rules target t (edits_left rules target t v es) ≡ true
left_fits rules target t [] v n faultless fit none = fit
left_fits rules target t (e ∷ es) v n faultless fit none =
    let both = no_faults n (edit_fault rules target t v e.path e.value) (edits_fault rules target t (edited rules target t v e.path e.value) (n + 1) es) none in
    let bs : List ℕ = packed (shape_of rules target t) v in
    let image = packed_image rules target t v faultless fit in
    let done = patched_bytes rules target t v e.path e.value bs faultless image.long image.bytes image.canonical.shows both.0 in
    left_fits rules target t es (edited rules target t v e.path e.value) (n + 1) faultless
    (fit_law rules target t (edited rules target t v e.path e.value) _ faultless done.bytes done.shows) both.1

pub image_law : ImageLaw
unfolding job_fault image_of
image_law rules target t v es h =
    let n = neither (option_map of_description (desc_fault rules target t)) (or_else (value_fault rules target t v) (edits_fault rules target t v 0 es)) h in
    let m = neither (value_fault rules target t v) (edits_fault rules target t v 0 es) n.1 in
    let faultless = unmapped of_description (desc_fault rules target t) n.0 in
    packed_image rules target t (edits_left rules target t v es) faultless (left_fits rules target t es v 0 faultless (fits_if (fits rules target t v) m.0) m.1)
