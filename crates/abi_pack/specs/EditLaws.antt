-- Laws of edited bytes, of descriptions without a fault, under either rules.
use Rattle.std.specs.Prelude.{◌≡◌, ◌↔◌, ℕ, List, None}
use Rattle.abi_num.specs.declared.target.Target.{Target}
use Rattle.abi_det.specs.Offers.{Rules}
use Rattle.abi_layout.specs.Trees.{Tree}
use Rattle.abi_pack.specs.ByteMap.{AreBytes, bytes_of}
use Rattle.abi_pack.specs.Edits.{edit_fault, edited, IsEdited}
use Rattle.abi_pack.specs.EditLists.{PlainEdit, AreEdited, edited_bytes}
use Rattle.abi_pack.specs.Jobs.{edits_fault}
use Rattle.abi_pack.specs.Laws.{Faultless}
use Rattle.abi_pack.specs.Plain.{Plain}
use Rattle.abi_pack.specs.Values.{Shows, IsLong, IsImageOf}
use Rattle.abi_pack.specs.declared.step.Step.{Step}

-- no second byte string is the edit of bytes that show a value
abbrev pub OneEditLaw : Type 0
OneEditLaw =
    (rules : Rules) (target : Target) (t : Tree) (v : Plain) (path : List Step) (w : Plain)
    (old bs cs : List ℕ)
    → Faultless rules target t
    → IsLong rules target t old → AreBytes (bytes_of old) → Shows rules target t v (bytes_of old)
    → edit_fault rules target t v path w ≡ None
    → IsEdited rules target t v path w old bs → IsEdited rules target t v path w old cs → bs ≡ cs

-- canonical bytes become the canonical bytes of the edited value
abbrev pub CanonicalEditLaw : Type 0
CanonicalEditLaw =
    (rules : Rules) (target : Target) (t : Tree) (v : Plain) (path : List Step) (w : Plain)
    (old new : List ℕ)
    → Faultless rules target t
    → IsImageOf rules target t v old → edit_fault rules target t v path w ≡ None
    → IsEdited rules target t v path w old new
    → IsImageOf rules target t (edited rules target t v path w) new

-- what edits compute is the edit of bytes that show a value, one after the other, and nothing else is
abbrev pub EditedBytesLaw : Type 0
EditedBytesLaw =
    (rules : Rules) (target : Target) (t : Tree) (v : Plain) (es : List PlainEdit)
    (old new : List ℕ)
    → Faultless rules target t
    → IsLong rules target t old → AreBytes (bytes_of old) → Shows rules target t v (bytes_of old)
    → edits_fault rules target t v 0 es ≡ None
    → AreEdited rules target t v es old new ↔ (new ≡ edited_bytes rules target t es old)
