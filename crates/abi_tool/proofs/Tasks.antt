-- The job of a document is one of its command, and the bytes of a document are bytes.
use Rattle.std.proofs.Common.{◌≡◌, Bool, true, false, not, cond, ℕ, List, Option, Some, None, Ok, Err, Result, codes, option_and_then, option_map, refl, subst}
use Rattle.hex.specs.Hex.{decode_of}
use Rattle.hex.proofs.HexLemmas.{decode_of-ok}
use Rattle.serde_json.specs.Data.{Data}
use Rattle.serde_json.specs.Find.{get, as_str}
use Rattle.abi_pack.specs.ByteMap.{AreBytes}
use Rattle.abi_pack.specs.ByteMap as bytes
use Rattle.abi_document.specs.Forms.{has_only, under, bytes_of, result_ok}
use Rattle.abi_document.specs.Targets.{target_of}
use Rattle.abi_document.specs.Values.{value_at}
use Rattle.abi_document.specs.Documents.{Task, pack, layout, read, edit, report, PlainJob, keys_of, desc_in, edits_in, edits_or_none, work_in, job_of}
use Rattle.abi_document.specs.Edits.{levels}
use Rattle.abi_document.specs.declared.command.Command.{Command}
use Rattle.abi_document.specs.declared.command.Command.TheVariants.{Pack, Layout, Read, Edit, Report}

-- the task is one of the command
abbrev pub IsTask : Command → Task → Type 0
IsTask Pack (pack t v es) = Unit {0}
IsTask Layout (layout t) = Unit {0}
IsTask Read (read t bs) = AreBytes (bytes.bytes_of bs)
IsTask Edit (edit t bs es) = AreBytes (bytes.bytes_of bs)
IsTask Report (report t) = Unit {0}
IsTask _ _ = ⊥

found_in : {A B : Type 0} (found : Option A) (next : A → Option B) (b : B) → option_and_then next found ≡ Some b → (a : A) × (found ≡ Some a) × (next a ≡ Some b)
found_in None next b is = absurd (cc)
found_in (Some a) next b is = (a, refl, is)

mapped_in : {A B : Type 0} (f : A → B) (found : Option A) (b : B) → option_map f found ≡ Some b → (a : A) × (f a ≡ b)
mapped_in f None b is = absurd (cc)
mapped_in f (Some a) b is = (a, cc)

went_well : {A E : Type 0} (r : Result A E) (a : A) → result_ok r ≡ Some a → r ≡ Ok a
went_well (Ok x) a is = cc
went_well (Err e) a is = absurd (cc)

are_bytes : (d : Data) (bs : List ℕ) → bytes_of d ≡ Some bs → AreBytes (bytes.bytes_of bs)
are_bytes d bs is =
    let text = found_in (as_str d) (λ t. result_ok (decode_of t)) bs is in
    (decode_of-ok text.0 bs (went_well (decode_of text.0) bs text.2)).3

is_of_command : (command : Command) (d : Data) (task : Task) → work_in command d ≡ Some task → IsTask command task
is_of_command Pack d task is =
    let desc = found_in (desc_in d) (λ t. option_and_then (λ v. option_and_then (λ es. Some (pack t v es)) (edits_or_none d)) (under (codes "value") (value_at levels) d)) task is in
    let value = found_in (under (codes "value") (value_at levels) d) (λ v. option_and_then (λ es. Some (pack desc.0 v es)) (edits_or_none d)) task desc.2 in
    let edits = found_in (edits_or_none d) (λ es. Some (pack desc.0 value.0 es)) task value.2 in
    let same : pack desc.0 value.0 edits.0 ≡ task = cc in
    subst (λ k. IsTask Pack k) same tt
is_of_command Layout d task is =
    let desc = mapped_in layout (desc_in d) task is in
    subst (λ k. IsTask Layout k) desc.1 tt
is_of_command Read d task is =
    let desc = found_in (desc_in d) (λ t. option_and_then (λ bs. Some (read t bs)) (under (codes "bytes") bytes_of d)) task is in
    let given = found_in (under (codes "bytes") bytes_of d) (λ bs. Some (read desc.0 bs)) task desc.2 in
    let held = found_in (get (codes "bytes") d) bytes_of given.0 given.1 in
    let same : read desc.0 given.0 ≡ task = cc in
    subst (λ k. IsTask Read k) same (are_bytes held.0 given.0 held.2)
is_of_command Edit d task is =
    let desc = found_in (desc_in d) (λ t. option_and_then (λ bs. option_and_then (λ es. Some (edit t bs es)) (edits_in d)) (under (codes "bytes") bytes_of d)) task is in
    let given = found_in (under (codes "bytes") bytes_of d) (λ bs. option_and_then (λ es. Some (edit desc.0 bs es)) (edits_in d)) task desc.2 in
    let held = found_in (get (codes "bytes") d) bytes_of given.0 given.1 in
    let edits = found_in (edits_in d) (λ es. Some (edit desc.0 given.0 es)) task given.2 in
    let same : edit desc.0 given.0 edits.0 ≡ task = cc in
    subst (λ k. IsTask Edit k) same (are_bytes held.0 given.0 held.2)
is_of_command Report d task is =
    let desc = mapped_in report (desc_in d) task is in
    subst (λ k. IsTask Report k) desc.1 tt

job_in : (command : Command) (d : Data) (job : PlainJob) → option_and_then (λ target. option_and_then (λ task. Some (record { target = target; task = task })) (work_in command d)) (under (codes "target") target_of d) ≡ Some job
    → IsTask command job.task
job_in command d job is =
    let target = found_in (under (codes "target") target_of d) (λ target. option_and_then (λ task. Some (record { target = target; task = task })) (work_in command d)) job is in
    let task = found_in (work_in command d) (λ task. Some (record { target = target.0; task = task })) job target.2 in
    let P : PlainJob → Type 0 = λ j. IsTask command j.task in
    let same : record { target = target.0; task = task.0 } ≡ job = cc in
    subst P same (is_of_command command d task.0 task.1)

job_if : (only : Bool) (found : Option PlainJob) (job : PlainJob) → cond (not only) None found ≡ Some job → found ≡ Some job
job_if true found job is = is
job_if false found job is = absurd (cc)

-- the job of a document of the command is one of the command
pub is_task : (command : Command) (d : Data) (job : PlainJob) → job_of command d ≡ Some job → IsTask command job.task
unfolding job_of
is_task command d job is = job_in command d job (job_if (has_only (keys_of command) d) _ job is)
