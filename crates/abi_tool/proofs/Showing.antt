-- Status 0 of `read` and of `edit` says what the headline says.
use Rattle.std.proofs.Common.{◌≡◌, eqb, ℕ, List, [], ◌∷◌, Bool, true, false, cond, Option, Some, None, Ok, Err, IfSome, codes, length, refl, sym, subst}
use Rattle.std.specs.Io.KnownBytes.{Appends}
use Rattle.abi_num.specs.declared.target.Target.{Target}
use Rattle.abi_det.specs.Offers.{One}
use Rattle.abi_layout.specs.Faults.{desc_fault}
use Rattle.abi_layout.specs.Frames.{written_frame}
use Rattle.abi_layout.specs.Trees.{Tree}
use Rattle.abi_pack.specs.ByteMap.{ByteMap as Bytes, AreBytes, bytes_of}
use Rattle.abi_pack.specs.EditLists.{edited_bytes}
use Rattle.abi_pack.specs.Jobs.{edits_fault}
use Rattle.abi_pack.specs.Plain.{Plain}
use Rattle.abi_pack.specs.Reading.{value_read}
use Rattle.abi_pack.specs.Values.{Shows, IsLong}
use Rattle.abi_document.specs.Documents.{pack, layout, read, edit, report}
use Rattle.abi_document.specs.declared.command.Command.TheVariants.{Read, Edit}
use Rattle.abi_tool.specs.Answers.{reply_to, Answers}
use Rattle.abi_tool.specs.Headline.{ShowsOnly, Reads, Edits}
use Rattle.abi_tool.specs.Lines.{value_line, bytes_line}
use Rattle.abi_tool.specs.Outcomes.{Outcome, description_fault, packing_fault, value_outcome, shown_outcome, bytes_outcome, edited_outcome}
use Rattle.abi_tool.specs.declared.fault.Fault.TheVariants as fault
use Rattle.abi_pack.proofs.EditedLists.{edited_bytes_law}
use Rattle.abi_pack.proofs.Lawful.{unique_law, item_law, read_law}
use Rattle.abi_tool.proofs.Done.{EachDone, done_told, no_fault}
use Rattle.abi_tool.proofs.Faults.{no_description_fault, no_edits_fault}

-- bytes that show a value show no other, and match nothing that is forbidden
pub shows_only : (target : Target) (t : Tree) (v : Plain) (f : Bytes) → desc_fault One target t ≡ None → AreBytes f → Shows One target t v f → ShowsOnly target t v f
shows_only target t v f none small shown = record {
  shown = λ w. (λ h. unique_law One target t w v f none small h shown, λ e. subst (λ x. Shows One target t x f) (sym e) shown);
  allowed = item_law One target t v f none small shown;
}

-- a text comes of bytes of the length that have a value
record IsValueText (next : Plain → Outcome) (long : Bool) (found : Option Plain) (text : List ℕ) : Type 0 where
  value : Plain
  is_long : long ≡ true
  is_found : found ≡ Some value
  is_text : next value ≡ Ok text

value_text_of : (next : Plain → Outcome) (long : Bool) (found : Option Plain) (text : List ℕ) → cond long (value_outcome next found) (Err fault.WrongLength) ≡ Ok text
    → IsValueText next long found text
value_text_of next true None text e = absurd (cc)
value_text_of next true (Some value) text e = record { value = value; is_long = refl; is_found = refl; is_text = e }
value_text_of next false found text e = absurd (cc)

-- a text comes of bytes that show a value of a description without a fault
record IsShownText (next : Plain → Outcome) (target : Target) (desc : Tree) (given text : List ℕ) : Type 0 where
  value : Plain
  no_fault : desc_fault One target desc ≡ None
  long : IsLong One target desc given
  shown : Shows One target desc value (bytes_of given)
  is_text : next value ≡ Ok text

shown_text : (next : Plain → Outcome) (target : Target) (desc : Tree) (given text : List ℕ) → AreBytes (bytes_of given) → bytes_outcome next target desc given ≡ Ok text
    → IsShownText next target desc given text
shown_text next target desc given text small e =
    let none = no_fault (description_fault target desc) (shown_outcome next target desc given) text e in
    let no_desc : desc_fault One target desc ≡ None = no_description_fault target desc none.0 in
    let is = value_text_of next (eqb (length given) (written_frame One target desc).size) (value_read One target desc given) text none.1 in
    let shown = (read_law One target desc is.value given no_desc small).0 is.is_found in
    record { value = is.value; no_fault = no_desc; long = shown.0; shown = shown.1; is_text = is.is_text }

reads : (bytes : List ℕ) (old new : Option (List ℕ)) → EachDone Read bytes old new (Reads bytes old new)
reads bytes old new target (pack desc value es) is job = absurd is
reads bytes old new target (layout desc) is job = absurd is
reads bytes old new target (edit desc given es) is job = absurd is
reads bytes old new target (report desc) is job = absurd is
reads bytes old new target (read desc given) is job =
    let shown = shown_text (λ v. Ok (value_line v)) target desc given job.text is job.is_text in
    let e = shown.is_text in
    let same : value_line shown.value ≡ job.text = cc in
    record {
      tree = job.tree;
      target = target;
      desc = desc;
      given = given;
      value = shown.value;
      is_read = job.is_read;
      is_job = job.is_job;
      no_fault = shown.no_fault;
      fills = shown.long;
      shows = shows_only target desc shown.value (bytes_of given) shown.no_fault is shown.shown;
      wrote = subst (λ t. Appends old new t) (sym same) job.wrote;
    }

pub reads_told : (words : List (List ℕ)) (told old new : Option (List ℕ)) (status : ℕ) → IfSome told (λ bytes. Answers (reply_to words bytes) old new status)
    → words ≡ codes "read" ∷ [] → IfSome told (λ bytes. status ≡ 0 → Reads bytes old new)
reads_told words told old new status =
    done_told Read (codes "read") words told old new status (λ bytes. Reads bytes old new) (λ bytes. refl) (λ bytes. reads bytes old new)

edits : (bytes : List ℕ) (old new : Option (List ℕ)) → EachDone Edit bytes old new (Edits bytes old new)
edits bytes old new target (pack desc value es) is job = absurd is
edits bytes old new target (layout desc) is job = absurd is
edits bytes old new target (read desc given) is job = absurd is
edits bytes old new target (report desc) is job = absurd is
edits bytes old new target (edit desc given es) is job =
    let shown = shown_text (edited_outcome target desc given es) target desc given job.text is job.is_text in
    let edited : List ℕ = edited_bytes One target desc es given in
    let none = no_fault (packing_fault (edits_fault One target desc shown.value 0 es)) (Ok (bytes_line edited)) job.text shown.is_text in
    let no_edit = no_edits_fault target desc shown.value es none.0 in
    let e = none.1 in
    let same : bytes_line edited ≡ job.text = cc in
    record {
      tree = job.tree;
      target = target;
      desc = desc;
      given = given;
      edits = es;
      value = shown.value;
      edited = edited;
      is_read = job.is_read;
      is_job = job.is_job;
      no_fault = shown.no_fault;
      fills = shown.long;
      shows = shows_only target desc shown.value (bytes_of given) shown.no_fault is shown.shown;
      no_edit_fault = no_edit;
      are_edited = (edited_bytes_law One target desc shown.value es given edited shown.no_fault shown.long is shown.shown no_edit).1 refl;
      wrote = subst (λ t. Appends old new t) (sym same) job.wrote;
    }

pub edits_told : (words : List (List ℕ)) (told old new : Option (List ℕ)) (status : ℕ) → IfSome told (λ bytes. Answers (reply_to words bytes) old new status)
    → words ≡ codes "edit" ∷ [] → IfSome told (λ bytes. status ≡ 0 → Edits bytes old new)
edits_told words told old new status =
    done_told Edit (codes "edit") words told old new status (λ bytes. Edits bytes old new) (λ bytes. refl) (λ bytes. edits bytes old new)
