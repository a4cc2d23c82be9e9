-- Edits one after another.
use Rattle.std.proofs.Common.{◌≡◌, ℕ, suc, ◌+◌, ◌<◌, ◌≤◌, List, [], ◌∷◌, length, get_or, drop, drop-cons, Option, Some, None, refl, ap, ◌∙◌, sym, arith}
use Rattle.std.specs.Option.{option_map}
use Rattle.std.proofs.lemmas.List.{drop_all}
use Rattle.abi_num.specs.declared.target.Target.{Target}
use Rattle.abi_det.specs.Offers.{or_else, Rules}
use Rattle.abi_layout.specs.Faults.{desc_fault}
use Rattle.abi_layout.specs.Trees.{Tree}
use Rattle.abi_pack.specs.ByteMap.{bytes_of}
use Rattle.abi_pack.specs.EditLists.{PlainEdit, plain_edits, edits_left, AreEdited}
use Rattle.abi_pack.specs.Edits.{edited, edit_fault, IsEdit, IsRefused}
use Rattle.abi_pack.specs.Jobs.{of_edit, edits_fault, AreEditsOf, AreRefused}
use Rattle.abi_pack.specs.Plain.{Plain}
use Rattle.abi_pack.specs.Reading.{IsShown}
use Rattle.abi_pack.specs.Values.{Shows, IsImageOf}
use Rattle.abi_pack.specs.View.{plain}
use Rattle.abi_pack.specs.declared.abi_error.AbiError.{AbiError}
use Rattle.abi_pack.specs.declared.plan.EditError.{EditError}
use Rattle.abi_pack.specs.declared.step.Edit.{Edit}
use Rattle.abi_pack.specs.declared.step.Step.{Step}
use Rattle.abi_pack.proofs.EditLaws.{canonical_edit_law}

pub edits_at : (es : List Edit) (i : ℕ) (e : Edit) (path : List Step) → i < length es → e ≡ get_or es i e → path ≡ e.path
    → plain_edits (drop i es) ≡ record { path = path; value = plain e.value } ∷ plain_edits (drop (i + 1) es)
edits_at es i e path lt is same =
    let s : i + 1 ≡ suc i = omega arith in
    rw (s, same) (ap plain_edits (drop-cons es i e lt ∙ ap (λ x. x ∷ drop (suc i) es) (sym is)))

pub no_faults : (n : ℕ) (found : Option EditError) (rest : Option AbiError) → or_else (option_map (of_edit n) found) rest ≡ None → (found ≡ None) × (rest ≡ None)
no_faults n None rest h = (refl, h)
no_faults n (Some e) rest h = absurd (cc)

pub edits_end : (es : List Edit) (i : ℕ) → length es ≤ i → plain_edits (drop i es) ≡ []
edits_end es i h = ap plain_edits (drop_all i es h)

module _ (rules : Rules) (target : Target) (t : Tree) where
  -- what is left of the edits `all` of the value v does to u and to the bytes what all of them do to v and to the old bytes
  pub record IsLeft (all : List PlainEdit) (v : Plain) (old : List ℕ) (es : List PlainEdit) (n : ℕ) (u : Plain) (now : List ℕ) : Type 0 where
    pub shows : Shows rules target t u (bytes_of now)
    pub fault : edits_fault rules target t u n es ≡ edits_fault rules target t v 0 all
    pub bytes : (new : List ℕ) → AreEdited rules target t u es now new → AreEdited rules target t v all old new

  -- n edits are done, and `es` are left to do
  abbrev pub IsEditing : List PlainEdit → List ℕ → List PlainEdit → ℕ → List ℕ → Type 0
  IsEditing all old es n bytes =
      IsShown rules target t bytes × ((v : Plain) → Shows rules target t v (bytes_of old) → (u : Plain) × IsLeft all v old es n u bytes)

  pub editing_first : (all : List PlainEdit) (old : List ℕ) → IsShown rules target t old → IsEditing all old all 0 old
  editing_first all old shown = (shown, λ v h. (v, record { shows = h; fault = refl; bytes = λ new done. done }))

  pub editing_next : (all : List PlainEdit) (old : List ℕ) (e : PlainEdit) (es rest : List PlainEdit) (n : ℕ) (bytes next : List ℕ) → rest ≡ e ∷ es
      → IsEditing all old rest n bytes → IsEdit rules target t e.path e.value bytes next → IsEditing all old es (n + 1) next
  editing_next all old e es rest n bytes next cons is edit =
      let some = is.0.1 in
      let done = edit some.0 some.1 in (
        (done.1.long ∙ is.0.0, (edited rules target t some.0 e.path e.value, done.1.shows)),
        λ v h.
            let left = rw cons at (is.1 v h).1 in
            let u : Plain = (is.1 v h).0 in
            let here = edit u left.shows in (
              edited rules target t u e.path e.value,
              record {
                shows = here.1.shows;
                fault = sym (ap (λ x. or_else (option_map (of_edit n) x) (edits_fault rules target t (edited rules target t u e.path e.value) (n + 1) es)) here.0) ∙ left.fault;
                bytes = λ new more_. left.bytes new (next, here.1, more_);
              },
            ),
      )

  pub editing_refused : (all : List PlainEdit) (old : List ℕ) (e : PlainEdit) (es rest : List PlainEdit) (n : ℕ) (bytes : List ℕ) (error : EditError) → rest ≡ e ∷ es
      → IsEditing all old rest n bytes → IsRefused rules target t e.path e.value bytes error → AreRefused rules target t all old (of_edit n error)
  editing_refused all old e es rest n bytes error cons is refused v h =
      let left = rw cons at (is.1 v h).1 in
      let u : Plain = (is.1 v h).0 in
      sym left.fault ∙ ap (λ x. or_else (option_map (of_edit n) x) (edits_fault rules target t (edited rules target t u e.path e.value) (n + 1) es)) (refused u left.shows)

  pub editing_last : (all : List PlainEdit) (old : List ℕ) (rest : List PlainEdit) (n : ℕ) (bytes : List ℕ) → rest ≡ [] → IsEditing all old rest n bytes
      → AreEditsOf rules target t all old bytes
  editing_last all old rest n bytes none is v h = let left = rw none at (is.1 v h).1 in (sym left.fault, left.bytes bytes refl)

  -- canonical bytes stay canonical
  pub edits_canonical : (es : List PlainEdit) (v : Plain) (n : ℕ) (old new : List ℕ) → desc_fault rules target t ≡ None → IsImageOf rules target t v old
      → edits_fault rules target t v n es ≡ None → AreEdited rules target t v es old new → IsImageOf rules target t (edits_left rules target t v es) new
  edits_canonical [] v n old new faultless image none done = rw done image
  edits_canonical (e ∷ es) v n old new faultless image none done =
      let both = no_faults n (edit_fault rules target t v e.path e.value) (edits_fault rules target t (edited rules target t v e.path e.value) (n + 1) es) none in
      edits_canonical es (edited rules target t v e.path e.value) (n + 1) done.0 new faultless
      (canonical_edit_law rules target t v e.path e.value old done.0 faultless image both.0 done.1) both.1 done.2
