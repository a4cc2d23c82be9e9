-- What the calls of a plan ask for and answer, whatever description it is the plan of.
use Rattle.std.specs.Prelude.{◌≡◌, ◌↔◌, ℕ, List, Bool, true, IsTrue}
use Rattle.abi_pack.specs.EditLists.{plain_edits}
use Rattle.abi_pack.specs.Edits.{IsEdit, IsRefused}
use Rattle.abi_pack.specs.Jobs.{AreEditsOf, AreRefused}
use Rattle.abi_pack.specs.Packed.{packed}
use Rattle.abi_pack.specs.Packing.{Packing, OfPlan}
use Rattle.abi_pack.specs.Reading.{IsShown, TellsMany}
use Rattle.abi_pack.specs.Values.{fits, IsImageOf, IsLong}
use Rattle.abi_pack.specs.View.{shape, plain}
use Rattle.abi_pack.specs.declared.abi_error.AbiError.{AbiError}
use Rattle.abi_pack.specs.declared.plan.EditError.{EditError}
use Rattle.abi_pack.specs.declared.step.Edit.{Edit}
use Rattle.abi_pack.specs.declared.step.Step.{Step}
use Rattle.abi_pack.specs.declared.value.Value.{Value}

module _ (p : Packing) where
  -- the answer tells whether the value fits
  abbrev pub TellsFit : Value → Bool → Type 0
  TellsFit v answer = OfPlan p (λ rules target t. answer ≡ fits rules target t (plain v))

  abbrev pub IsFit : Value → Type 0
  IsFit v = OfPlan p (λ rules target t. fits rules target t (plain v) ≡ true)

  -- canonical bytes of the value
  abbrev pub AreBytesFor : Value → List ℕ → Type 0
  AreBytesFor v bs = OfPlan p (λ rules target t. IsImageOf rules target t (plain v) bs)

  -- and as they are computed
  abbrev pub packed_by : Value → List ℕ
  packed_by v = packed (shape p.part) (plain v)

  -- the bytes show a value
  abbrev pub AreShownBy : List ℕ → Type 0
  AreShownBy bs = OfPlan p (λ rules target t. IsShown rules target t bs)

  -- the answer tells whether they do
  abbrev pub TellsShown : List ℕ → Bool → Type 0
  TellsShown bs answer = OfPlan p (λ rules target t. IsTrue answer ↔ IsShown rules target t bs)

  -- the answer tells whether the value that as many bytes show is too large to be read
  abbrev pub TellsManyShown : List ℕ → Bool → Type 0
  TellsManyShown bs answer =
      OfPlan p (λ rules target t. IsLong rules target t bs → TellsMany rules target t bs answer)

  -- the edit of bytes, and why they are not edited
  abbrev pub IsEditBy : List Step → Value → List ℕ → List ℕ → Type 0
  IsEditBy path w old new =
      OfPlan p (λ rules target t. IsEdit rules target t path (plain w) old new)

  abbrev pub IsRefusedBy : List Step → Value → List ℕ → EditError → Type 0
  IsRefusedBy path w old e =
      OfPlan p (λ rules target t. IsRefused rules target t path (plain w) old e)

  -- the same of edits in turn
  abbrev pub AreEditsBy : List Edit → List ℕ → List ℕ → Type 0
  AreEditsBy es old new =
      OfPlan p (λ rules target t. AreEditsOf rules target t (plain_edits es) old new)

  abbrev pub AreRefusedBy : List Edit → List ℕ → AbiError → Type 0
  AreRefusedBy es old error =
      OfPlan p (λ rules target t. AreRefused rules target t (plain_edits es) old error)
