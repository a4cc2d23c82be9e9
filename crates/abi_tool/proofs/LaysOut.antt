-- Status 0 of `layout` and of `report` says what the headline says.
use Rattle.std.proofs.Common.{◌≡◌, ℕ, List, [], ◌∷◌, Option, None, Ok, IfSome, codes, refl, sym, subst}
use Rattle.std.specs.Io.KnownBytes.{Appends}
use Rattle.abi_det.specs.Offers.{One}
use Rattle.abi_layout.specs.Faults.{desc_fault}
use Rattle.abi_layout.specs.Frames.{written_frame}
use Rattle.abi_layout.specs.Sums.{written_sums}
use Rattle.abi_document.specs.Documents.{pack, layout, read, edit, report}
use Rattle.abi_document.specs.declared.command.Command.TheVariants.{Layout, Report}
use Rattle.abi_tool.specs.Answers.{reply_to, Answers}
use Rattle.abi_tool.specs.Headline.{IsExplained, LaysOut, Reports}
use Rattle.abi_tool.specs.Lines.{layout_text}
use Rattle.abi_tool.specs.Outcomes.{description_fault, report_lines}
use Rattle.abi_tool.proofs.Done.{EachDone, done_told, no_fault}
use Rattle.abi_tool.proofs.EachSum.{explained, each_sum}
use Rattle.abi_tool.proofs.Faultless.{described}
use Rattle.abi_tool.proofs.Faults.{no_description_fault}

lays_out : (bytes : List ℕ) (old new : Option (List ℕ)) → EachDone Layout bytes old new (LaysOut bytes old new)
lays_out bytes old new target (pack desc value es) is job = absurd is
lays_out bytes old new target (read desc given) is job = absurd is
lays_out bytes old new target (edit desc given es) is job = absurd is
lays_out bytes old new target (report desc) is job = absurd is
lays_out bytes old new target (layout desc) is job =
    let text : List ℕ = layout_text (written_frame One target desc) (written_sums One target 0 desc) in
    let none = no_fault (description_fault target desc) (Ok text) job.text job.is_text in
    let no_desc : desc_fault One target desc ≡ None = no_description_fault target desc none.0 in
    let sound = described One target desc no_desc in
    let same : text ≡ job.text = cc in
    record {
      tree = job.tree;
      target = target;
      desc = desc;
      is_read = job.is_read;
      is_job = job.is_job;
      no_fault = no_desc;
      wrote = subst (λ t. Appends old new t) (sym same) job.wrote;
      are_explained = each_sum IsExplained explained target 0 desc sound.0 sound.1;
    }

pub laid_out_told : (words : List (List ℕ)) (told old new : Option (List ℕ)) (status : ℕ) → IfSome told (λ bytes. Answers (reply_to words bytes) old new status)
    → words ≡ codes "layout" ∷ [] → IfSome told (λ bytes. status ≡ 0 → LaysOut bytes old new)
laid_out_told words told old new status =
    done_told Layout (codes "layout") words told old new status (λ bytes. LaysOut bytes old new) (λ bytes. refl) (λ bytes. lays_out bytes old new)

reports : (bytes : List ℕ) (old new : Option (List ℕ)) → EachDone Report bytes old new (Reports bytes old new)
reports bytes old new target (pack desc value es) is job = absurd is
reports bytes old new target (layout desc) is job = absurd is
reports bytes old new target (read desc given) is job = absurd is
reports bytes old new target (edit desc given es) is job = absurd is
reports bytes old new target (report desc) is job =
    let text : List ℕ = report_lines target desc in
    let none = no_fault (description_fault target desc) (Ok text) job.text job.is_text in
    let same : text ≡ job.text = cc in
    record {
      tree = job.tree;
      target = target;
      desc = desc;
      is_read = job.is_read;
      is_job = job.is_job;
      no_fault = no_description_fault target desc none.0;
      wrote = subst (λ t. Appends old new t) (sym same) job.wrote;
    }

pub reports_told : (words : List (List ℕ)) (told old new : Option (List ℕ)) (status : ℕ) → IfSome told (λ bytes. Answers (reply_to words bytes) old new status)
    → words ≡ codes "report" ∷ [] → IfSome told (λ bytes. status ≡ 0 → Reports bytes old new)
reports_told words told old new status =
    done_told Report (codes "report") words told old new status (λ bytes. Reports bytes old new) (λ bytes. refl) (λ bytes. reports bytes old new)
