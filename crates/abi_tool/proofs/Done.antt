-- Status 0: the document is a job of the command, and the sink got the text that comes of it.
use Rattle.std.proofs.Common.{◌≡◌, ℕ, List, [], ◌∷◌, Option, Some, None, Ok, IfSome, refl, subst}
use Rattle.std.specs.Io.KnownBytes.{Appends}
use Rattle.serde_json.specs.Data.{Data}
use Rattle.abi_num.specs.declared.target.Target.{Target}
use Rattle.abi_document.specs.Documents.{Task, job_of}
use Rattle.abi_document.specs.declared.command.Command.{Command}
use Rattle.abi_tool.specs.Answers.{reply_to, reply_to_bytes, Replies, Answers}
use Rattle.abi_tool.specs.Outcomes.{Outcome, unless, task_outcome}
use Rattle.abi_tool.specs.Reading.{reading}
use Rattle.abi_tool.specs.declared.fault.Fault.{Fault}
use Rattle.abi_tool.proofs.ReplyToBytes.{done_reply}
use Rattle.abi_tool.proofs.Tasks.{IsTask, is_task}

pub record IsJobDone (command : Command) (bytes : List ℕ) (old new : Option (List ℕ)) (target : Target) (task : Task) : Type 0 where
  pub tree : Data
  pub text : List ℕ
  pub is_read : reading bytes ≡ Some tree
  pub is_job : job_of command tree ≡ Some (record { target = target; task = task })
  pub is_text : task_outcome target task ≡ Ok text
  pub wrote : Appends old new text

-- what follows of every task of the command that was done
abbrev pub EachDone : Command → List ℕ → Option (List ℕ) → Option (List ℕ) → Type 0 → Type 0
EachDone command bytes old new P = (target : Target) (task : Task) → IsTask command task → IsJobDone command bytes old new target task → P

pub done : (command : Command) (bytes : List ℕ) (old new : Option (List ℕ)) (status : ℕ) (P : Type 0) → EachDone command bytes old new P
    → Replies (reply_to_bytes command bytes) old new status → status ≡ 0 → P
done command bytes old new status P each h z =
    let done = done_reply command bytes old new status h z in
    let job = done.1.comes.job in
    each job.target job.task (is_task command done.1.tree job done.1.comes.is_job) (record {
      tree = done.1.tree;
      text = done.0;
      is_read = done.1.is_read;
      is_job = done.1.comes.is_job;
      is_text = done.1.comes.is_text;
      wrote = done.2;
    })

-- where the source tells its bytes
pub done_told : (command : Command) (word : List ℕ) (words : List (List ℕ)) (told old new : Option (List ℕ)) (status : ℕ) (P : List ℕ → Type 0)
    → ((bytes : List ℕ) → reply_to (word ∷ []) bytes ≡ Some (reply_to_bytes command bytes))
    → ((bytes : List ℕ) → EachDone command bytes old new (P bytes))
    → IfSome told (λ bytes. Answers (reply_to words bytes) old new status)
    → words ≡ word ∷ [] → IfSome told (λ bytes. status ≡ 0 → P bytes)
done_told command word words None old new status P listed each h e = h
done_told command word words (Some bytes) old new status P listed each h e =
    let here : Answers (reply_to (word ∷ []) bytes) old new status = subst (λ w. Answers (reply_to w bytes) old new status) e h in
    done command bytes old new status (P bytes) (each bytes) (subst (λ r. Answers r old new status) (listed bytes) here)

-- no fault stood before a text
pub no_fault : (fault : Option Fault) (rest : Outcome) (text : List ℕ) → unless fault rest ≡ Ok text → (fault ≡ None) × (rest ≡ Ok text)
no_fault None rest text e = (refl, e)
no_fault (Some fault) rest text e = absurd (cc)
