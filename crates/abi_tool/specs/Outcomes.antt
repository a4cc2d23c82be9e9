-- What comes of a job: a text, or the job's first fault. Each command has one definition of it.
use Rattle.std.specs.Prelude.{◌≡◌, ◌==◌, ℕ, List, true, Option, Some, None, Result, Ok, Err, length, option_and_then, if◌then◌else◌}
use Rattle.abi_num.specs.declared.target.Target.{Target}
use Rattle.abi_det.specs.Offers.{One}
use Rattle.abi_layout.specs.Faults.{desc_fault}
use Rattle.abi_layout.specs.Frames.{written_frame}
use Rattle.abi_layout.specs.Sums.{written_sums}
use Rattle.abi_layout.specs.Trees.{Tree}
use Rattle.abi_layout.specs.declared.desc_error.DescError.{DescError}
use Rattle.abi_layout.specs.ReportsOf.{report_tree}
use Rattle.abi_report.specs.Identifier.{identifier}
use Rattle.abi_pack.specs.EditLists.{PlainEdit, edits_left, edited_bytes}
use Rattle.abi_pack.specs.Jobs.{of_description, job_fault, edits_fault, image_of}
use Rattle.abi_pack.specs.Plain.{Plain}
use Rattle.abi_pack.specs.Reading.{value_read}
use Rattle.abi_pack.specs.declared.abi_error.AbiError.{AbiError}
use Rattle.abi_pack.specs.declared.abi_error.AbiError.TheVariants as found
use Rattle.abi_pack.specs.declared.image.Image.{Image}
use Rattle.abi_pack.specs.declared.plan.ReadError.{ReadError}
use Rattle.abi_pack.specs.declared.plan.ReadError.TheVariants as unread
use Rattle.abi_document.specs.Documents.{Task, pack, layout, read, edit, report, PlainJob}
use Rattle.abi_document.specs.Made.{le64, made_desc, made_value}
use Rattle.abi_tool.specs.Lines.{image_text, layout_text, value_line, bytes_line, report_text, made_text}
use Rattle.abi_tool.specs.declared.fault.Fault.{Fault}
use Rattle.abi_tool.specs.declared.fault.Fault.TheVariants as fault
use Rattle.abi_tool.specs.declared.job_error.JobError.{JobError}
use Rattle.abi_tool.specs.declared.job_error.JobError.TheVariants as why

abbrev pub Outcome : Type 0
Outcome = Result (List ℕ) Fault

-- the outcome, unless there is a fault before
abbrev pub unless : Option Fault → Outcome → Outcome
unless None outcome = outcome
unless (Some fault) outcome = Err fault

-- ---- errors of the crates below

-- the same error, of a job
abbrev pub of_packing : AbiError → JobError
of_packing found.BadTarget = why.Fault fault.BadTarget
of_packing found.TooManyParts = why.Fault fault.TooManyParts
of_packing (found.IllFormed part) = why.Fault (fault.IllFormed part)
of_packing (found.ArrayLength part) = why.Fault (fault.ArrayLength part)
of_packing (found.NotStable part) = why.Fault (fault.NotStable part)
of_packing (found.TooLarge part) = why.Fault (fault.TooLarge part)
of_packing found.OutOfMemory = why.OutOfMemory
of_packing found.WrongValue = why.Fault fault.WrongValue
of_packing (found.NoSuchPath number) = why.Fault (fault.NoSuchPath number)
of_packing (found.WrongVariant number) = why.Fault (fault.WrongVariant number)
of_packing (found.WrongPart number) = why.Fault (fault.WrongPart number)

abbrev pub of_describing : DescError → JobError
of_describing error = of_packing (of_description error)

abbrev pub of_reading : ReadError → JobError
of_reading unread.WrongLength = why.Fault fault.WrongLength
of_reading unread.IllegalBytes = why.Fault fault.IllegalBytes
of_reading unread.OutOfMemory = why.OutOfMemory

-- want of memory is no fault
abbrev pub fault_of : JobError → Option Fault
fault_of (why.Fault fault) = Some fault
fault_of why.OutOfMemory = None

-- ---- the commands

abbrev pub packing_fault : Option AbiError → Option Fault
packing_fault found = option_and_then (λ error. fault_of (of_packing error)) found

-- the first fault of the description, its value and its edits
abbrev pub pack_fault : Target → Tree → Plain → List PlainEdit → Option Fault
pack_fault target t v es = packing_fault (job_fault One target t v es)

-- the lines of the image of the value that the edits leave
abbrev pub packed_text : Target → Tree → Plain → List PlainEdit → List ℕ
packed_text target t v es = image_text (image_of One target t (edits_left One target t v es))

abbrev pub pack_outcome : Target → Tree → Plain → List PlainEdit → Outcome
pack_outcome target t v es = unless (pack_fault target t v es) (Ok (packed_text target t v es))

-- the first fault of the description
abbrev pub description_fault : Target → Tree → Option Fault
description_fault target t =
    option_and_then (λ error. fault_of (of_describing error)) (desc_fault One target t)

-- the lines of its layout, and of its sums with what refuses a niche
abbrev pub laid_out_text : Target → Tree → List ℕ
laid_out_text target t = layout_text (written_frame One target t) (written_sums One target 0 t)

abbrev pub layout_outcome : Target → Tree → Outcome
layout_outcome target t = unless (description_fault target t) (Ok (laid_out_text target t))

-- what comes of the value that bytes show, if they show one
abbrev pub value_outcome : (Plain → Outcome) → Option Plain → Outcome
value_outcome next None = Err fault.IllegalBytes
value_outcome next (Some v) = next v

-- what comes of the value that the bytes show, where they are as many as the description has
abbrev pub shown_outcome : (Plain → Outcome) → Target → Tree → List ℕ → Outcome
shown_outcome next target t bs =
    if length bs == (written_frame One target t).size
    then value_outcome next (value_read One target t bs)
    else Err fault.WrongLength

-- unless the description has a fault
abbrev pub bytes_outcome : (Plain → Outcome) → Target → Tree → List ℕ → Outcome
bytes_outcome next target t bs =
    unless (description_fault target t) (shown_outcome next target t bs)

-- the line of the value
abbrev pub read_outcome : Target → Tree → List ℕ → Outcome
read_outcome target t bs = bytes_outcome (λ v. Ok (value_line v)) target t bs

-- the line of the bytes that edits leave, unless one has a fault
abbrev pub edited_outcome : Target → Tree → List ℕ → List PlainEdit → Plain → Outcome
edited_outcome target t bs es v =
    unless (packing_fault (edits_fault One target t v 0 es))
    (Ok (bytes_line (edited_bytes One target t es bs)))

abbrev pub edit_outcome : Target → Tree → List ℕ → List PlainEdit → Outcome
edit_outcome target t bs es = bytes_outcome (edited_outcome target t bs es) target t bs

-- the lines of the description's identifier and its report
abbrev pub report_lines : Target → Tree → List ℕ
report_lines target t =
    report_text (identifier target (report_tree One target t)) (report_tree One target t)

abbrev pub report_outcome : Target → Tree → Outcome
report_outcome target t = unless (description_fault target t) (Ok (report_lines target t))

abbrev pub task_outcome : Target → Task → Outcome
task_outcome target (pack t v es) = pack_outcome target t v es
task_outcome target (layout t) = layout_outcome target t
task_outcome target (read t bs) = read_outcome target t bs
task_outcome target (edit t bs es) = edit_outcome target t bs es
task_outcome target (report t) = report_outcome target t

abbrev pub outcome_of : PlainJob → Outcome
outcome_of job = task_outcome job.target job.task

-- ---- without a document

-- the image of the job of k fields
abbrev pub made_image : ℕ → Image
made_image k = image_of One le64 (made_desc k) (made_value k)

-- its lines; reading gives its value again
abbrev pub made_outcome : ℕ → Outcome
made_outcome k = Ok (made_text k true (made_image k))

-- ---- answers

-- the text or the fault that was answered is what comes of the job; want of memory says nothing
abbrev pub IsOutcome : Outcome → Result (List ℕ) JobError → Type 0
IsOutcome outcome (Ok text) = outcome ≡ Ok text
IsOutcome outcome (Err (why.Fault fault)) = outcome ≡ Err fault
IsOutcome outcome (Err why.OutOfMemory) = Unit {0}
