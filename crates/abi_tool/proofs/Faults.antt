-- The fault of a description or of a job is never want of memory, so where the program finds no fault there is none at all.
use Rattle.std.proofs.Common.{◌≡◌, ℕ, ◌+◌, List, [], ◌∷◌, Bool, true, false, Option, Some, None, cond, option_and_then, refl, ◌∙◌}
use Rattle.std.specs.Option.{option_map}
use Rattle.abi_num.specs.declared.target.Target.{Target}
use Rattle.abi_det.specs.Offers.{Rules, One, or_else}
use Rattle.abi_layout.specs.Faults.{desc_fault}
use Rattle.abi_layout.specs.Trees.{Tree}
use Rattle.abi_layout.specs.declared.desc_error.DescError.{DescError}
use Rattle.abi_layout.specs.declared.desc_error.DescError.TheVariants as of_desc
use Rattle.abi_pack.specs.EditLists.{PlainEdit}
use Rattle.abi_pack.specs.Edits.{edited, edit_fault}
use Rattle.abi_pack.specs.Jobs.{of_description, of_edit, edits_fault, value_fault, job_fault}
use Rattle.abi_pack.specs.declared.plan.EditError.{EditError}
use Rattle.abi_pack.specs.declared.plan.EditError.TheVariants as of_edits
use Rattle.abi_pack.specs.Plain.{Plain}
use Rattle.abi_pack.specs.Values.{fits}
use Rattle.abi_pack.specs.declared.abi_error.AbiError.{AbiError}
use Rattle.abi_pack.specs.declared.abi_error.AbiError.TheVariants as found
use Rattle.abi_tool.specs.Outcomes.{of_packing, of_describing, fault_of, packing_fault, pack_fault, description_fault}
use Rattle.abi_layout.proofs.Causes.{desc_cause}
use Rattle.abi_tool.proofs.Faultless.{unmapped}

desc_cases : (fault : Option DescError) → (fault ≡ Some of_desc.OutOfMemory → ⊥) → option_map of_description fault ≡ Some found.OutOfMemory → ⊥
desc_cases None h e = cc
desc_cases (Some of_desc.OutOfMemory) h e = h refl
desc_cases (Some of_desc.BadTarget) h e = cc
desc_cases (Some of_desc.TooManyParts) h e = cc
desc_cases (Some (of_desc.IllFormed part)) h e = cc
desc_cases (Some (of_desc.ArrayLength part)) h e = cc
desc_cases (Some (of_desc.NotStable part)) h e = cc
desc_cases (Some (of_desc.TooLarge part)) h e = cc

-- neither of two faults is want of memory
either_cases : (a b : Option AbiError) → (a ≡ Some found.OutOfMemory → ⊥) → (b ≡ Some found.OutOfMemory → ⊥) → or_else a b ≡ Some found.OutOfMemory → ⊥
either_cases None b h k e = k e
either_cases (Some error) b h k e = h e

value_cases : (fit : Bool) → ◌≡◌ {A = Option AbiError} (cond fit None (Some found.WrongValue)) (Some found.OutOfMemory) → ⊥
value_cases true e = cc
value_cases false e = cc

edit_cases : (n : ℕ) (fault : Option EditError) → option_map (of_edit n) fault ≡ Some found.OutOfMemory → ⊥
edit_cases n None e = cc
edit_cases n (Some of_edits.NoSuchPath) e = cc
edit_cases n (Some of_edits.WrongVariant) e = cc
edit_cases n (Some of_edits.WrongPart) e = cc

edits_cases : (rules : Rules) (target : Target) (t : Tree) (es : List PlainEdit) (v : Plain) (n : ℕ) → edits_fault rules target t v n es ≡ Some found.OutOfMemory → ⊥
edits_cases rules target t [] v n e = cc
edits_cases rules target t (edit ∷ es) v n e =
    either_cases (option_map (of_edit n) (edit_fault rules target t v edit.path edit.value)) (edits_fault rules target t (edited rules target t v edit.path edit.value) (n + 1) es)
    (edit_cases n (edit_fault rules target t v edit.path edit.value)) (edits_cases rules target t es (edited rules target t v edit.path edit.value) (n + 1)) e

none_at_all : (fault : Option AbiError) → (fault ≡ Some found.OutOfMemory → ⊥) → option_and_then (λ error. fault_of (of_packing error)) fault ≡ None → fault ≡ None
none_at_all None h e = refl
none_at_all (Some found.OutOfMemory) h e = absurd (h refl)
none_at_all (Some found.BadTarget) h e = absurd (cc)
none_at_all (Some found.TooManyParts) h e = absurd (cc)
none_at_all (Some (found.IllFormed part)) h e = absurd (cc)
none_at_all (Some (found.ArrayLength part)) h e = absurd (cc)
none_at_all (Some (found.NotStable part)) h e = absurd (cc)
none_at_all (Some (found.TooLarge part)) h e = absurd (cc)
none_at_all (Some found.WrongValue) h e = absurd (cc)
none_at_all (Some (found.NoSuchPath edit)) h e = absurd (cc)
none_at_all (Some (found.WrongVariant edit)) h e = absurd (cc)
none_at_all (Some (found.WrongPart edit)) h e = absurd (cc)

-- a description's fault, as that of a job
as_job : (fault : Option DescError)
    → option_and_then (λ error. fault_of (of_packing error)) (option_map of_description fault) ≡ option_and_then (λ error. fault_of (of_describing error)) fault
as_job None = refl
as_job (Some error) = refl

pub no_description_fault : (target : Target) (t : Tree) → description_fault target t ≡ None → desc_fault One target t ≡ None
no_description_fault target t e =
    let fault : Option DescError = desc_fault One target t in
    unmapped of_description fault (none_at_all (option_map of_description fault) (desc_cases fault (desc_cause One target t)) (as_job fault ∙ e))

pub no_job_fault : (target : Target) (t : Tree) (v : Plain) (es : List PlainEdit) → pack_fault target t v es ≡ None → job_fault One target t v es ≡ None
unfolding job_fault
no_job_fault target t v es e =
    none_at_all (job_fault One target t v es)
    (either_cases (option_map of_description (desc_fault One target t)) (or_else (value_fault One target t v) (edits_fault One target t v 0 es))
    (desc_cases (desc_fault One target t) (desc_cause One target t))
    (either_cases (value_fault One target t v) (edits_fault One target t v 0 es) (value_cases (fits One target t v)) (edits_cases One target t es v 0))) e

pub no_edits_fault : (target : Target) (t : Tree) (v : Plain) (es : List PlainEdit) → packing_fault (edits_fault One target t v 0 es) ≡ None → edits_fault One target t v 0 es ≡ None
no_edits_fault target t v es e = none_at_all (edits_fault One target t v 0 es) (edits_cases One target t es v 0) e
