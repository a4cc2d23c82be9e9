-- What was answered is what comes of the job.
use Rattle.std.proofs.Common.{◌≡◌, eqb, ℕ, List, Bool, true, false, cond, Option, Some, None, Ok, Err, length, option_and_then, refl, ap, sym, subst, ◌∙◌}
use Rattle.std.proofs.lemmas.Bool.{eq-eqb, ne_eqb}
use Rattle.abi_num.specs.declared.target.Target.{Target}
use Rattle.abi_det.specs.Offers.{One}
use Rattle.abi_layout.specs.Faults.{IsFault, desc_fault}
use Rattle.abi_layout.specs.Frames.{written_frame}
use Rattle.abi_layout.specs.Trees.{Tree}
use Rattle.abi_layout.specs.declared.desc_error.DescError.{DescError}
use Rattle.abi_layout.specs.declared.desc_error.DescError.TheVariants as of_desc
use Rattle.abi_pack.specs.ByteMap.{AreBytes, bytes_of}
use Rattle.abi_pack.specs.EditLists.{PlainEdit, edited_bytes}
use Rattle.abi_pack.specs.Jobs.{IsJobFault, edits_fault, AreEditsOf, AreRefused}
use Rattle.abi_pack.specs.Plain.{Plain}
use Rattle.abi_pack.specs.Reading.{value_read, IsShown, IsReadError}
use Rattle.abi_pack.specs.Values.{Shows, IsLong}
use Rattle.abi_pack.specs.declared.abi_error.AbiError.{AbiError}
use Rattle.abi_pack.specs.declared.abi_error.AbiError.TheVariants as found
use Rattle.abi_pack.specs.declared.plan.ReadError.{ReadError}
use Rattle.abi_pack.specs.declared.plan.ReadError.TheVariants as error
use Rattle.abi_tool.specs.Lines.{bytes_line}
use Rattle.abi_tool.specs.Outcomes.{Outcome, unless, of_packing, of_describing, of_reading, fault_of, value_outcome, shown_outcome, bytes_outcome, edited_outcome, edit_outcome, IsOutcome}
use Rattle.abi_tool.specs.declared.fault.Fault.TheVariants as fault
use Rattle.abi_pack.proofs.EditedLists.{edited_bytes_law}
use Rattle.abi_pack.proofs.Lawful.{read_law}

-- ---- packing

told : (fault : Option AbiError) (rest : Outcome) (error : AbiError) → fault ≡ Some error
    → unless (option_and_then (λ e. fault_of (of_packing e)) fault) rest ≡ unless (fault_of (of_packing error)) rest
told fault rest error is = rw is refl

pub refused : (fault : Option AbiError) (rest : Outcome) (error : AbiError) → IsJobFault fault error
    → IsOutcome (unless (option_and_then (λ e. fault_of (of_packing e)) fault) rest) (Err (of_packing error))
refused fault rest found.BadTarget h = told fault rest found.BadTarget (h (λ e. cc))
refused fault rest found.TooManyParts h = told fault rest found.TooManyParts (h (λ e. cc))
refused fault rest (found.IllFormed part) h = told fault rest (found.IllFormed part) (h (λ e. cc))
refused fault rest (found.ArrayLength part) h = told fault rest (found.ArrayLength part) (h (λ e. cc))
refused fault rest (found.NotStable part) h = told fault rest (found.NotStable part) (h (λ e. cc))
refused fault rest (found.TooLarge part) h = told fault rest (found.TooLarge part) (h (λ e. cc))
refused fault rest found.OutOfMemory h = tt
refused fault rest found.WrongValue h = told fault rest found.WrongValue (h (λ e. cc))
refused fault rest (found.NoSuchPath edit) h = told fault rest (found.NoSuchPath edit) (h (λ e. cc))
refused fault rest (found.WrongVariant edit) h = told fault rest (found.WrongVariant edit) (h (λ e. cc))
refused fault rest (found.WrongPart edit) h = told fault rest (found.WrongPart edit) (h (λ e. cc))

pub made : (fault : Option AbiError) (text other : List ℕ) → fault ≡ None → text ≡ other
    → unless (option_and_then (λ e. fault_of (of_packing e)) fault) (Ok other) ≡ Ok text
made fault text other none same = rw (none, same) refl

-- ---- descriptions

told_desc : (fault : Option DescError) (rest : Outcome) (error : DescError) → fault ≡ Some error
    → unless (option_and_then (λ e. fault_of (of_describing e)) fault) rest ≡ unless (fault_of (of_describing error)) rest
told_desc fault rest error is = rw is refl

pub refused_desc : (fault : Option DescError) (rest : Outcome) (error : DescError) → IsFault fault error
    → IsOutcome (unless (option_and_then (λ e. fault_of (of_describing e)) fault) rest) (Err (of_describing error))
refused_desc fault rest of_desc.BadTarget h = told_desc fault rest of_desc.BadTarget (h (λ e. cc))
refused_desc fault rest of_desc.TooManyParts h = told_desc fault rest of_desc.TooManyParts (h (λ e. cc))
refused_desc fault rest (of_desc.IllFormed part) h = told_desc fault rest (of_desc.IllFormed part) (h (λ e. cc))
refused_desc fault rest (of_desc.ArrayLength part) h = told_desc fault rest (of_desc.ArrayLength part) (h (λ e. cc))
refused_desc fault rest (of_desc.NotStable part) h = told_desc fault rest (of_desc.NotStable part) (h (λ e. cc))
refused_desc fault rest (of_desc.TooLarge part) h = told_desc fault rest (of_desc.TooLarge part) (h (λ e. cc))
refused_desc fault rest of_desc.OutOfMemory h = tt

pub made_desc : (fault : Option DescError) (text other : List ℕ) → fault ≡ None → text ≡ other
    → unless (option_and_then (λ e. fault_of (of_describing e)) fault) (Ok other) ≡ Ok text
made_desc fault text other none same = rw (none, same) refl

-- ---- bytes

faultless : (first : Option DescError) (rest : Outcome) → first ≡ None → unless (option_and_then (λ e. fault_of (of_describing e)) first) rest ≡ rest
faultless first rest none = rw none refl

module _ (next : Plain → Outcome) where
  by_value : (long : Bool) (value : Option Plain) → long ≡ true → cond long (value_outcome next value) (Err fault.WrongLength) ≡ value_outcome next value
  by_value long value is = rw is refl

  by_length : (long : Bool) (value : Option Plain) → long ≡ false → cond long (value_outcome next value) (Err fault.WrongLength) ≡ Err fault.WrongLength
  by_length long value is = rw is refl

none_found : {A : Type 0} (found : Option A) → ((x : A) → found ≡ Some x → ⊥) → found ≡ None
none_found None h = refl
none_found (Some x) h = absurd (h x refl)

module _ (next : Plain → Outcome) (target : Target) (t : Tree) (bs : List ℕ) (none : desc_fault One target t ≡ None) where
  found_value : (found : Option Plain) → value_read One target t bs ≡ found → IsLong One target t bs → bytes_outcome next target t bs ≡ value_outcome next found
  found_value found is long =
      let same : eqb (length bs) (written_frame One target t).size ≡ true = eq-eqb (length bs) (written_frame One target t).size long in
      faultless (desc_fault One target t) (shown_outcome next target t bs) none
      ∙ by_value next (eqb (length bs) (written_frame One target t).size) (value_read One target t bs) same ∙ ap (value_outcome next) is

  -- what comes of the value that the bytes show
  pub shown_value : (v : Plain) → AreBytes (bytes_of bs) → IsLong One target t bs × Shows One target t v (bytes_of bs) → bytes_outcome next target t bs ≡ next v
  shown_value v small shown = found_value (Some v) ((read_law One target t v bs none small).1 shown) shown.0

  pub unread : (e : ReadError) → AreBytes (bytes_of bs) → IsReadError One target t bs e → IsOutcome (bytes_outcome next target t bs) (Err (of_reading e))
  unread error.WrongLength small h =
      let other : eqb (length bs) (written_frame One target t).size ≡ false = ne_eqb (length bs) (written_frame One target t).size h in
      faultless (desc_fault One target t) (shown_outcome next target t bs) none
      ∙ by_length next (eqb (length bs) (written_frame One target t).size) (value_read One target t bs) other
  unread error.IllegalBytes small h =
      found_value None (none_found (value_read One target t bs) (λ v is. h.1 v ((read_law One target t v bs none small).0 is).1)) h.0
  unread error.OutOfMemory small h = tt

-- ---- edits

-- one of the edits is refused
pub edit_refused : (target : Target) (t : Tree) (bs : List ℕ) (es : List PlainEdit) (e : AbiError) → desc_fault One target t ≡ None → AreBytes (bytes_of bs)
    → IsShown One target t bs → AreRefused One target t es bs e → IsOutcome (edit_outcome target t bs es) (Err (of_packing e))
edit_refused target t bs es e none small shown h =
    let v : Plain = shown.1.0 in
    let found : Option AbiError = edits_fault One target t v 0 es in
    let text : Outcome = Ok (bytes_line (edited_bytes One target t es bs)) in
    subst (λ o. IsOutcome o (Err (of_packing e))) (sym (shown_value (edited_outcome target t bs es) target t bs none v small (shown.0, shown.1.1)))
    (refused found text e (λ other. h v shown.1.1))

-- none is
pub edit_done : (target : Target) (t : Tree) (bs : List ℕ) (es : List PlainEdit) (new : List ℕ) → desc_fault One target t ≡ None → AreBytes (bytes_of bs)
    → IsShown One target t bs → AreEditsOf One target t es bs new → edit_outcome target t bs es ≡ Ok (bytes_line new)
edit_done target t bs es new none small shown h =
    let v : Plain = shown.1.0 in
    let done = h v shown.1.1 in
    let same : new ≡ edited_bytes One target t es bs = (edited_bytes_law One target t v es bs new none shown.0 small shown.1.1 done.0).0 done.1 in
    shown_value (edited_outcome target t bs es) target t bs none v small (shown.0, shown.1.1)
    ∙ made (edits_fault One target t v 0 es) (bytes_line new) (bytes_line (edited_bytes One target t es bs)) done.0 (ap bytes_line same)
