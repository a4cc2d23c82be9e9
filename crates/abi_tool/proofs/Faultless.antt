-- What it says of a description and its value that a job has no fault.
use Rattle.std.proofs.Common.{◌≡◌, Bool, true, false, not, Option, Some, None, List, cond, ltb, refl}
use Rattle.std.specs.Option.{option_map}
use Rattle.abi_num.specs.Target.{is_row}
use Rattle.abi_num.specs.declared.target.Target.{Target}
use Rattle.abi_det.specs.Offers.{Rules, or_else}
use Rattle.abi_layout.specs.Faults.{part_fault, desc_fault}
use Rattle.abi_layout.specs.Trees.{Tree, parts}
use Rattle.abi_layout.specs.declared.desc_error.DescError.{DescError}
use Rattle.abi_layout.specs.declared.desc_error.DescError.TheVariants as of_desc
use Rattle.abi_pack.specs.EditLists.{PlainEdit}
use Rattle.abi_pack.specs.Jobs.{of_description, value_fault, edits_fault, job_fault}
use Rattle.abi_pack.specs.Plain.{Plain}
use Rattle.abi_pack.specs.Values.{fits}
use Rattle.abi_pack.specs.declared.abi_error.AbiError.{AbiError}
use Rattle.abi_pack.specs.declared.abi_error.AbiError.TheVariants as fault

-- the first of two faults is none where neither is
pub neither : {A : Type 0} (a b : Option A) → or_else a b ≡ None → (a ≡ None) × (b ≡ None)
neither None b e = (refl, e)
neither (Some x) b e = absurd (cc)

pub unmapped : {A B : Type 0} (f : A → B) (a : Option A) → option_map f a ≡ None → a ≡ None
unmapped f None e = refl
unmapped f (Some x) e = absurd (cc)

fits_if : (fit : Bool) → ◌≡◌ {A = Option AbiError} (cond fit None (Some fault.WrongValue)) None → fit ≡ true
fits_if true e = refl
fits_if false e = absurd (cc)

row_if : (row many : Bool) (part : Option DescError) → cond (not row) (Some of_desc.BadTarget) (cond many (Some of_desc.TooManyParts) part) ≡ None
    → (row ≡ true) × (part ≡ None)
row_if true false part e = (refl, e)
row_if true true part e = absurd (cc)
row_if false many part e = absurd (cc)

pub record IsFaultless (rules : Rules) (target : Target) (t : Tree) (v : Plain) : Type 0 where
  pub desc : desc_fault rules target t ≡ None
  pub row : is_row target ≡ true
  pub parts : part_fault rules target 0 t ≡ None
  pub fit : fits rules target t v ≡ true

pub described : (rules : Rules) (target : Target) (t : Tree) → desc_fault rules target t ≡ None → (is_row target ≡ true) × (part_fault rules target 0 t ≡ None)
unfolding desc_fault
described rules target t e = row_if (is_row target) (ltb 4096 (parts t)) (part_fault rules target 0 t) e

pub faultless : (rules : Rules) (target : Target) (t : Tree) (v : Plain) (es : List PlainEdit) → job_fault rules target t v es ≡ None → IsFaultless rules target t v
unfolding job_fault
faultless rules target t v es e =
    let n = neither (option_map of_description (desc_fault rules target t)) (or_else (value_fault rules target t v) (edits_fault rules target t v 0 es)) e in
    let m = neither (value_fault rules target t v) (edits_fault rules target t v 0 es) n.1 in
    let none = unmapped of_description (desc_fault rules target t) n.0 in
    let d = described rules target t none in
    record { desc = none; row = d.0; parts = d.1; fit = fits_if (fits rules target t v) m.0 }
