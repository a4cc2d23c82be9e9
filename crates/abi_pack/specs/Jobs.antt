-- The first fault of packing a value of a description and editing it, and the image that comes of it where there is none.
use Rattle.std.specs.Prelude.{◌≡◌, ◌≢◌, ℕ, ◌+◌, List, [], ◌∷◌, Option, Some, None, option_map, if◌then◌else◌}
use Rattle.abi_num.specs.declared.target.Target.{Target}
use Rattle.abi_det.specs.Offers.{or_else, Rules, One}
use Rattle.abi_layout.specs.Trees.{Tree, tree}
use Rattle.abi_layout.specs.Frames.{written_frame}
use Rattle.abi_layout.specs.Faults.{desc_fault}
use Rattle.abi_layout.specs.declared.desc_error.DescError.{DescError}
use Rattle.abi_layout.specs.declared.desc_error.DescError.TheVariants as of_desc
use Rattle.abi_layout.specs.Plans.{shape_of}
use Rattle.abi_pack.specs.ByteMap.{bytes_of}
use Rattle.abi_pack.specs.EditLists.{PlainEdit, AreEdited, plain_edits, edits_left}
use Rattle.abi_pack.specs.Edits.{edited, edit_fault}
use Rattle.abi_pack.specs.Packed.{packed}
use Rattle.abi_pack.specs.Plain.{Plain}
use Rattle.abi_pack.specs.Values.{fits, Shows, IsImageOf}
use Rattle.abi_pack.specs.View.{plain}
use Rattle.abi_layout.specs.Sums.{written_sums}
use Rattle.abi_layout.specs.declared.desc.Desc.{Desc}
use Rattle.abi_pack.specs.declared.abi_error.AbiError.{AbiError}
use Rattle.abi_pack.specs.declared.abi_error.AbiError.TheVariants as fault
use Rattle.abi_pack.specs.declared.image.Image.{Image}
use Rattle.abi_pack.specs.declared.step.Edit.{Edit}
use Rattle.abi_pack.specs.declared.value.Value.{Value}
use Rattle.abi_pack.specs.declared.plan.EditError.{EditError}
use Rattle.abi_pack.specs.declared.plan.EditError.TheVariants as of_edits

-- the same fault, of a job
abbrev pub of_description : DescError → AbiError
of_description of_desc.BadTarget = fault.BadTarget
of_description of_desc.TooManyParts = fault.TooManyParts
of_description (of_desc.IllFormed part) = fault.IllFormed part
of_description (of_desc.ArrayLength part) = fault.ArrayLength part
of_description (of_desc.NotStable part) = fault.NotStable part
of_description (of_desc.TooLarge part) = fault.TooLarge part
of_description of_desc.OutOfMemory = fault.OutOfMemory

abbrev pub value_fault : Rules → Target → Tree → Plain → Option AbiError
value_fault rules target t v = if fits rules target t v then None else Some fault.WrongValue

-- the same fault, of edit number n
abbrev pub of_edit : ℕ → EditError → AbiError
of_edit n of_edits.NoSuchPath = fault.NoSuchPath n
of_edit n of_edits.WrongVariant = fault.WrongVariant n
of_edit n of_edits.WrongPart = fault.WrongPart n

-- the first fault of edits in turn, of which the first has number n: each is judged by the value that those before it leave
abbrev pub edits_fault : Rules → Target → Tree → Plain → ℕ → List PlainEdit → Option AbiError
edits_fault rules target t v n [] = None
edits_fault rules target t v n (e ∷ es) =
    or_else (option_map (of_edit n) (edit_fault rules target t v e.path e.value))
    (edits_fault rules target t (edited rules target t v e.path e.value) (n + 1) es)

-- the edits of bytes in turn, whatever value they show
abbrev pub AreEditsOf : Rules → Target → Tree → List PlainEdit → List ℕ → List ℕ → Type 0
AreEditsOf rules target t es old new =
    (v : Plain) → Shows rules target t v (bytes_of old)
    → (edits_fault rules target t v 0 es ≡ None) × AreEdited rules target t v es old new

-- why one of them is refused
abbrev pub AreRefused : Rules → Target → Tree → List PlainEdit → List ℕ → AbiError → Type 0
AreRefused rules target t es old error =
    (v : Plain) → Shows rules target t v (bytes_of old)
    → edits_fault rules target t v 0 es ≡ Some error

-- the first fault of the description, then that of the value, then that of the edits
unfoldable pub job_fault : Rules → Target → Tree → Plain → List PlainEdit → Option AbiError
job_fault rules target t v es =
    or_else (option_map of_description (desc_fault rules target t))
    (or_else (value_fault rules target t v) (edits_fault rules target t v 0 es))

-- an error that is the fault, or want of memory
abbrev pub IsJobFault : Option AbiError → AbiError → Type 0
IsJobFault found error = error ≢ fault.OutOfMemory → found ≡ Some error

-- the image of a value that fits a description without a fault
unfoldable pub image_of : Rules → Target → Tree → Plain → Image
image_of rules target t v = record {
  layout = written_frame rules target t;
  placed = written_sums rules target 0 t;
  bytes = packed (shape_of rules target t) v;
}

-- ---- the job of a description and a value as they are handed in, under the first rules

-- the value that the edits leave
abbrev pub value_left : Target → Desc → Value → List Edit → Plain
value_left target desc value edits =
    edits_left One target (tree desc) (plain value) (plain_edits edits)

-- its first fault
abbrev pub fault_of : Target → Desc → Value → List Edit → Option AbiError
fault_of target desc value edits =
    job_fault One target (tree desc) (plain value) (plain_edits edits)

-- its image
abbrev pub image_left : Target → Desc → Value → List Edit → Image
image_left target desc value edits =
    image_of One target (tree desc) (value_left target desc value edits)

-- its bytes are canonical bytes of that value
abbrev pub IsImageLeft : Target → Desc → Value → List Edit → Image → Type 0
IsImageLeft target desc value edits image =
    IsImageOf One target (tree desc) (value_left target desc value edits) image.bytes
