-- Edits one after another: the value and the bytes that they leave.
use Rattle.std.specs.Prelude.{◌≡◌, ℕ, List, [], ◌∷◌, map}
use Rattle.abi_num.specs.declared.target.Target.{Target}
use Rattle.abi_det.specs.Offers.{Rules}
use Rattle.abi_layout.specs.Trees.{Tree}
use Rattle.abi_layout.specs.Plans.{shape_of}
use Rattle.abi_pack.specs.Edits.{edited, IsEdited}
use Rattle.abi_pack.specs.ShapeEdits.{patched}
use Rattle.abi_pack.specs.Plain.{Plain}
use Rattle.abi_pack.specs.View.{plain}
use Rattle.abi_pack.specs.declared.step.Edit.{Edit}
use Rattle.abi_pack.specs.declared.step.Step.{Step}

pub record PlainEdit : Type 0 where
  pub path : List Step
  pub value : Plain

abbrev pub plain_edits : List Edit → List PlainEdit
plain_edits es = map (λ e. record { path = e.path; value = plain e.value }) es

-- the value that they leave
abbrev pub edits_left : Rules → Target → Tree → Plain → List PlainEdit → Plain
edits_left rules target t v [] = v
edits_left rules target t v (e ∷ es) =
    edits_left rules target t (edited rules target t v e.path e.value) es

-- the bytes that they leave
abbrev pub AreEdited : Rules → Target → Tree → Plain → List PlainEdit → List ℕ → List ℕ → Type 0
AreEdited rules target t v [] old new = new ≡ old
AreEdited rules target t v (e ∷ es) old new =
    (next : List ℕ) × IsEdited rules target t v e.path e.value old next
    × AreEdited rules target t (edited rules target t v e.path e.value) es next new

-- and as they are computed
abbrev pub edited_bytes : Rules → Target → Tree → List PlainEdit → List ℕ → List ℕ
edited_bytes rules target t [] bs = bs
edited_bytes rules target t (e ∷ es) bs =
    edited_bytes rules target t es (patched (shape_of rules target t) e.path e.value bs)
