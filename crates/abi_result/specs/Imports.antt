-- What a use of an import does.
use Rattle.std.specs.Prelude.{◌≡◌, ◌≢◌, ℕ, ◌≤◌, true, false, ◌⊎◌, ⊤}
use Rattle.std.specs.Borrow.{Bor, MutBor, Fml, RattleType, follows_so}
use mathlib.Core.Option.{none}
use Rattle.abi_report.specs.declared.type_report.TypeReport.{TypeReport}
use Rattle.abi_result.specs.declared.canaried_import.CanariedImport.{CanariedImport}
use Rattle.abi_result.specs.declared.checked_import.CheckedImport.{CheckedImport}
use Rattle.abi_result.specs.declared.checked_import.Outcome.TheVariants.{Unasked, Loaded, Refused}
use Rattle.abi_result.specs.declared.report_mismatch.ReportMismatch.{ReportMismatch}
use Rattle.abi_result.specs.Counts.{Rose}

-- what was lent of the value behind s can be read alone, so s is left as a value of which P holds
abbrev pub Leaves : (R : RattleType) → MutBor R.Denot → (R.Denot → Type 0) → Fml
Leaves R s P = follows_so R R s.ghost_name none (λ _ _. ⊤) P

-- the loader was asked where there was no outcome, and nothing changed where there was one
pub record Asked {F L : Type 0} (askings refusals : L → ℕ) (before after : CheckedImport F L)
    : Type 0 where
  pub first : before.outcome ≡ Unasked → Rose (askings before.loader) (askings after.loader)
  pub later : before.outcome ≢ Unasked → after ≡ before
  pub cause : after.outcome ≡ Refused
      → Rose (refusals before.loader) (refusals after.loader) ⊎ (before.outcome ≡ Refused)
  pub settled : after.outcome ≢ Unasked
  pub own : after.local ≡ before.local
  pub askings_stand : askings before.loader ≤ askings after.loader
  pub refusals_stand : refusals before.loader ≤ refusals after.loader

-- what is lent is what the loader gave
abbrev pub IsLent : {F L : Type 0} → CheckedImport F L → Bor F → Type 0
IsLent after import = after.outcome ≡ Loaded import.now

-- the loader refused, and the mismatch carries the import's own report and that of the loader
pub record IsMismatch {F L : Type 0} (loaded : L → TypeReport) (after : CheckedImport F L)
    (mismatch : ReportMismatch) : Type 0 where
  pub refused : after.outcome ≡ Refused
  pub own : mismatch.local.now ≡ after.local
  pub other : mismatch.loaded.now ≡ loaded after.loader

-- the canary was called where it had not been, and nothing changed where it had
pub record Called {F C : Type 0} (calls : C → ℕ) (before after : CanariedImport F C) : Type 0 where
  pub first : before.is_called ≡ false → Rose (calls before.canary) (calls after.canary)
  pub later : before.is_called ≡ true → after ≡ before
  pub settled : after.is_called ≡ true
  pub kept : after.source ≡ before.source
