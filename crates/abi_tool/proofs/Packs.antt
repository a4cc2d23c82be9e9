-- Status 0 of `pack` says what the headline says.
use Rattle.std.proofs.Common.{◌≡◌, ℕ, List, [], ◌∷◌, Option, None, Ok, IfSome, codes, refl, sym, subst}
use Rattle.std.specs.Io.KnownBytes.{Appends}
use Rattle.abi_num.specs.declared.target.Target.{Target}
use Rattle.abi_det.specs.Offers.{One}
use Rattle.abi_layout.specs.Faults.{desc_fault}
use Rattle.abi_layout.specs.Frames.{written_frame}
use Rattle.abi_layout.specs.Trees.{Tree}
use Rattle.abi_pack.specs.ByteMap.{ByteMap as Bytes, AreBytes, bytes_of}
use Rattle.abi_pack.specs.EditLists.{PlainEdit, edits_left}
use Rattle.abi_pack.specs.Jobs.{job_fault, image_of}
use Rattle.abi_pack.specs.Plain.{Plain}
use Rattle.abi_pack.specs.Values.{Shows, IsImageOf}
use Rattle.abi_document.specs.Documents.{pack, layout, read, edit, report}
use Rattle.abi_document.specs.declared.command.Command.TheVariants.{Pack}
use Rattle.abi_tool.specs.Answers.{reply_to, Answers}
use Rattle.abi_tool.specs.Headline.{AgreesOutside, IsSized, ShowsOnly, Packs}
use Rattle.abi_tool.specs.Lines.{image_text}
use Rattle.abi_tool.specs.Outcomes.{pack_fault}
use Rattle.abi_pack.proofs.Lawful.{change_law}
use Rattle.abi_pack.proofs.Promised.{image_law}
use Rattle.abi_tool.proofs.Done.{IsJobDone, EachDone, done_told, no_fault}
use Rattle.abi_tool.proofs.EachSum.{sized, each_sum}
use Rattle.abi_tool.proofs.Faultless.{IsFaultless, faultless}
use Rattle.abi_tool.proofs.Faults.{no_job_fault}
use Rattle.abi_tool.proofs.Showing.{shows_only}

-- an image that differs in free bits alone
still_shows : (target : Target) (t : Tree) (v : Plain) (f g : Bytes) → desc_fault One target t ≡ None → AreBytes f → AreBytes g
    → Shows One target t v f → AgreesOutside (written_frame One target t).free (written_frame One target t).size f g → ShowsOnly target t v g
still_shows target t v f g none bf bg shown same = shows_only target t v g none bg (change_law One target t v f g none bf bg shown same)

packs_job : (bytes : List ℕ) (old new : Option (List ℕ)) (target : Target) (desc : Tree) (given : Plain) (es : List PlainEdit) → IsJobDone Pack bytes old new target (pack desc given es)
    → job_fault One target desc given es ≡ None → Appends old new (image_text (image_of One target desc (edits_left One target desc given es))) → Packs bytes old new
unfolding image_of
packs_job bytes old new target desc given es job f w =
    let value : Plain = edits_left One target desc given es in
    let n : IsFaultless One target desc given = faultless One target desc given es f in
    let p : IsImageOf One target desc value (image_of One target desc value).bytes = image_law One target desc given es f in
    record {
      tree = job.tree;
      target = target;
      desc = desc;
      given = given;
      edits = es;
      value = value;
      image = image_of One target desc value;
      is_read = job.is_read;
      is_job = job.is_job;
      no_fault = f;
      is_left = refl;
      wrote = w;
      is_layout = refl;
      are_sums = refl;
      are_sized = each_sum IsSized sized target 0 desc n.row n.parts;
      fills = p.long;
      canonical = p.canonical;
      shows = λ g small same. still_shows target desc value (bytes_of (image_of One target desc value).bytes) g n.desc p.bytes small p.canonical.shows same;
    }

packs : (bytes : List ℕ) (old new : Option (List ℕ)) → EachDone Pack bytes old new (Packs bytes old new)
packs bytes old new target (layout desc) is job = absurd is
packs bytes old new target (read desc given) is job = absurd is
packs bytes old new target (edit desc given es) is job = absurd is
packs bytes old new target (report desc) is job = absurd is
packs bytes old new target (pack desc given es) is job =
    let text : List ℕ = image_text (image_of One target desc (edits_left One target desc given es)) in
    let none = no_fault (pack_fault target desc given es) (Ok text) job.text job.is_text in
    let same : text ≡ job.text = cc in
    packs_job bytes old new target desc given es job (no_job_fault target desc given es none.0) (subst (λ t. Appends old new t) (sym same) job.wrote)

pub packs_told : (words : List (List ℕ)) (told old new : Option (List ℕ)) (status : ℕ) → IfSome told (λ bytes. Answers (reply_to words bytes) old new status)
    → words ≡ codes "pack" ∷ [] → IfSome told (λ bytes. status ≡ 0 → Packs bytes old new)
packs_told words told old new status =
    done_told Pack (codes "pack") words told old new status (λ bytes. Packs bytes old new) (λ bytes. refl) (λ bytes. packs bytes old new)
