-- The bytes that edits compute, one after the other.
use Rattle.std.proofs.Common.{◌≡◌, ℕ, ◌+◌, List, [], ◌∷◌, None, refl, ◌∙◌, sym, subst}
use Rattle.abi_num.specs.declared.target.Target.{Target}
use Rattle.abi_det.specs.Offers.{Rules}
use Rattle.abi_layout.specs.Faults.{desc_fault}
use Rattle.abi_layout.specs.Plans.{shape_of}
use Rattle.abi_layout.specs.Trees.{Tree}
use Rattle.abi_pack.specs.ByteMap.{AreBytes, bytes_of}
use Rattle.abi_pack.specs.EditLaws.{EditedBytesLaw}
use Rattle.abi_pack.specs.EditLists.{PlainEdit, AreEdited, edited_bytes}
use Rattle.abi_pack.specs.Edits.{edited, edit_fault, IsEdited}
use Rattle.abi_pack.specs.Jobs.{edits_fault}
use Rattle.abi_pack.specs.Plain.{Plain}
use Rattle.abi_pack.specs.ShapeEdits.{patched}
use Rattle.abi_pack.specs.Values.{Shows, IsLong}
use Rattle.abi_pack.proofs.EditLaws.{one_edit_law}
use Rattle.abi_pack.proofs.EditSteps.{no_faults}
use Rattle.abi_pack.proofs.PlanEdits.{patched_bytes}

module _ (rules : Rules) (target : Target) (t : Tree) (faultless : desc_fault rules target t ≡ None) where
  -- one edit without a fault, and those after it
  record AreLeft (v : Plain) (n : ℕ) (e : PlainEdit) (es : List PlainEdit) (old : List ℕ) : Type 0 where
    none : edit_fault rules target t v e.path e.value ≡ None
    here : IsEdited rules target t v e.path e.value old (patched (shape_of rules target t) e.path e.value old)
    rest : edits_fault rules target t (edited rules target t v e.path e.value) (n + 1) es ≡ None

  left : (v : Plain) (n : ℕ) (e : PlainEdit) (es : List PlainEdit) (old : List ℕ) → IsLong rules target t old → AreBytes (bytes_of old)
      → Shows rules target t v (bytes_of old) → edits_fault rules target t v n (e ∷ es) ≡ None → AreLeft v n e es old
  left v n e es old long small shown none =
      let both = no_faults n (edit_fault rules target t v e.path e.value) (edits_fault rules target t (edited rules target t v e.path e.value) (n + 1) es) none in
      record {
        none = both.0;
        here = patched_bytes rules target t v e.path e.value old faultless long small shown both.0;
        rest = both.1;
      }

  are_edited : (es : List PlainEdit) (v : Plain) (n : ℕ) (old : List ℕ) → IsLong rules target t old → AreBytes (bytes_of old)
      → Shows rules target t v (bytes_of old) → edits_fault rules target t v n es ≡ None → AreEdited rules target t v es old (edited_bytes rules target t es old)
  are_edited [] v n old long small shown none = refl
  are_edited (e ∷ es) v n old long small shown none =
      let next : List ℕ = patched (shape_of rules target t) e.path e.value old in
      let is = left v n e es old long small shown none in
      (next, is.here, are_edited es (edited rules target t v e.path e.value) (n + 1) next (is.here.long ∙ long) is.here.bytes is.here.shows is.rest)

  no_others : (es : List PlainEdit) (v : Plain) (n : ℕ) (old new : List ℕ) → IsLong rules target t old → AreBytes (bytes_of old)
      → Shows rules target t v (bytes_of old) → edits_fault rules target t v n es ≡ None → AreEdited rules target t v es old new → new ≡ edited_bytes rules target t es old
  no_others [] v n old new long small shown none done = done
  no_others (e ∷ es) v n old new long small shown none done =
      let next : List ℕ = patched (shape_of rules target t) e.path e.value old in
      let is = left v n e es old long small shown none in
      let same : done.0 ≡ next = one_edit_law rules target t v e.path e.value old done.0 next faultless long small shown is.none done.1 is.here in
      no_others es (edited rules target t v e.path e.value) (n + 1) next new (is.here.long ∙ long) is.here.bytes is.here.shows is.rest
      (subst (λ bs. AreEdited rules target t (edited rules target t v e.path e.value) es bs new) same done.2)

pub edited_bytes_law : EditedBytesLaw
edited_bytes_law rules target t v es old new faultless long small shown none = (
  no_others rules target t faultless es v 0 old new long small shown none,
  λ same. subst (λ bs. AreEdited rules target t v es old bs) (sym same) (are_edited rules target t faultless es v 0 old long small shown none),
)
