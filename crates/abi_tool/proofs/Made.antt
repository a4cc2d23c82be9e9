-- A made job is done unless memory is refused: it has no fault, and reading gives its value again.
use Rattle.std.proofs.Common.{◌≡◌, ◌⊎◌, inl, inr, ℕ, List, [], Option, None, Result, Ok, Err, IfOk, IsTrue, refl, arith}
use Rattle.std.specs.Io.KnownBytes.{Appends}
use Rattle.abi_num.specs.declared.target.Target.{Target}
use Rattle.abi_det.specs.Offers.{One}
use Rattle.abi_layout.specs.Faults.{IsFault, desc_fault}
use Rattle.abi_layout.specs.Trees.{Tree}
use Rattle.abi_layout.specs.declared.desc_error.DescError.{DescError}
use Rattle.abi_layout.specs.declared.desc_error.DescError.TheVariants as of_desc
use Rattle.abi_pack.specs.ByteMap.{bytes_of}
use Rattle.abi_pack.specs.Jobs.{IsJobFault, job_fault, image_of}
use Rattle.abi_pack.specs.Plain.{Plain}
use Rattle.abi_pack.specs.Reading.{IsReadError}
use Rattle.abi_pack.specs.Values.{IsLong, Shows, IsImageOf}
use Rattle.abi_pack.specs.declared.abi_error.AbiError.{AbiError}
use Rattle.abi_pack.specs.declared.abi_error.AbiError.TheVariants as found
use Rattle.abi_pack.specs.declared.plan.ReadError.{ReadError}
use Rattle.abi_pack.specs.declared.plan.ReadError.TheVariants as unread
use Rattle.abi_document.specs.Made.{is_count, le64, made_desc, made_value}
use Rattle.abi_tool.specs.Answers.{Replies}
use Rattle.abi_tool.specs.Headline.{MakesWhole, Makes}
use Rattle.abi_tool.specs.Outcomes.{Outcome, IsOutcome, of_packing, of_describing, of_reading, made_image}
use Rattle.abi_tool.specs.Reply.{reply_by, made_reply}
use Rattle.abi_tool.specs.declared.answer.Reply.{Reply}
use Rattle.abi_tool.specs.declared.job_error.JobError.{JobError}
use Rattle.abi_tool.specs.declared.job_error.JobError.TheVariants as why
use Rattle.abi_tool.proofs.Faultless.{faultless}
use Rattle.abi_document.proofs.MadeJobs.{made_law}
use Rattle.abi_pack.proofs.Lawful.{unique_law}
use Rattle.abi_pack.proofs.Promised.{image_law}

-- ---- without a fault, the only error is want of memory

pub no_packing_fault : (fault : Option AbiError) (e : AbiError) → fault ≡ None → IsJobFault fault e → of_packing e ≡ why.OutOfMemory
no_packing_fault fault found.BadTarget none h = absurd (let is = h (λ e. cc) in cc)
no_packing_fault fault found.TooManyParts none h = absurd (let is = h (λ e. cc) in cc)
no_packing_fault fault (found.IllFormed part) none h = absurd (let is = h (λ e. cc) in cc)
no_packing_fault fault (found.ArrayLength part) none h = absurd (let is = h (λ e. cc) in cc)
no_packing_fault fault (found.NotStable part) none h = absurd (let is = h (λ e. cc) in cc)
no_packing_fault fault (found.TooLarge part) none h = absurd (let is = h (λ e. cc) in cc)
no_packing_fault fault found.OutOfMemory none h = refl
no_packing_fault fault found.WrongValue none h = absurd (let is = h (λ e. cc) in cc)
no_packing_fault fault (found.NoSuchPath edit) none h = absurd (let is = h (λ e. cc) in cc)
no_packing_fault fault (found.WrongVariant edit) none h = absurd (let is = h (λ e. cc) in cc)
no_packing_fault fault (found.WrongPart edit) none h = absurd (let is = h (λ e. cc) in cc)

pub no_describing_fault : (fault : Option DescError) (e : DescError) → fault ≡ None → IsFault fault e → of_describing e ≡ why.OutOfMemory
no_describing_fault fault of_desc.BadTarget none h = absurd (let is = h (λ e. cc) in cc)
no_describing_fault fault of_desc.TooManyParts none h = absurd (let is = h (λ e. cc) in cc)
no_describing_fault fault (of_desc.IllFormed part) none h = absurd (let is = h (λ e. cc) in cc)
no_describing_fault fault (of_desc.ArrayLength part) none h = absurd (let is = h (λ e. cc) in cc)
no_describing_fault fault (of_desc.NotStable part) none h = absurd (let is = h (λ e. cc) in cc)
no_describing_fault fault (of_desc.TooLarge part) none h = absurd (let is = h (λ e. cc) in cc)
no_describing_fault fault of_desc.OutOfMemory none h = refl

pub no_reading_error : (target : Target) (t : Tree) (v : Plain) (bs : List ℕ) (e : ReadError) → IsImageOf One target t v bs
    → IsReadError One target t bs e → of_reading e ≡ why.OutOfMemory
no_reading_error target t v bs unread.WrongLength image h = absurd (h image.long)
no_reading_error target t v bs unread.IllegalBytes image h = absurd (h.1 v image.canonical.shows)
no_reading_error target t v bs unread.OutOfMemory image h = refl

pub same_value : (target : Target) (t : Tree) (v w : Plain) (bs : List ℕ) → desc_fault One target t ≡ None → IsImageOf One target t v bs
    → IsLong One target t bs × Shows One target t w (bytes_of bs) → w ≡ v
same_value target t v w bs none image h = unique_law One target t w v (bytes_of bs) none image.bytes h.1 image.canonical.shows

pub no_description_fault : (target : Target) (t : Tree) (v : Plain) → job_fault One target t v [] ≡ None → desc_fault One target t ≡ None
no_description_fault target t v none = (faultless One target t v [] none).desc

-- ---- the reply

-- the reply of a call that answers by whatever outcome was come to
pub by_outcome : {E : Type 0} (o : Outcome) (came : Result (List ℕ) JobError) (r : Result Reply E)
    → IfOk r (λ reply. (o : Outcome) → IsOutcome o came → reply ≡ reply_by o) → IsOutcome o came → IfOk r (λ reply. reply ≡ reply_by o)
by_outcome o came (Ok reply) told is = told o is
by_outcome o came (Err error) told is = tt

-- ---- what was written

whole : (k : ℕ) (old new : Option (List ℕ)) → IsTrue (is_count k) → Appends old new (made_reply k).text → MakesWhole k old new
unfolding image_of
whole k old new counted wrote =
    let none : job_fault One le64 (made_desc k) (made_value k) [] ≡ None = made_law k counted in
    let image : IsImageOf One le64 (made_desc k) (made_value k) (made_image k).bytes =
    image_law One le64 (made_desc k) (made_value k) [] none in
    record {
      image = made_image k;
      no_fault = none;
      is_layout = refl;
      are_sums = refl;
      fills = image.long;
      canonical = image.canonical;
      wrote = wrote;
    }

pub makes : (k : ℕ) (old new : Option (List ℕ)) (status : ℕ) → IsTrue (is_count k)
    → (status ≡ 0) ⊎ (status ≡ 3) ⊎ (status ≡ 8) → Replies (made_reply k) old new status → Makes k old new status
makes k old new status counted is (inl done) = inl (done.0, whole k old new counted done.1)
makes k old new status counted is (inr (inl part)) = inr (inl part)
makes k old new status counted (inl zero) (inr (inr (inl fault))) = absurd (omega (arith, fault.0, zero))
makes k old new status counted (inr (inl three)) (inr (inr (inl fault))) = absurd (omega (arith, fault.0, three))
makes k old new status counted (inr (inr eight)) (inr (inr (inl fault))) = absurd (omega (arith, fault.0, eight))
makes k old new status counted is (inr (inr (inr memory))) = inr (inr memory)
