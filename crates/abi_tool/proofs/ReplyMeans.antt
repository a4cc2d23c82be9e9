-- Each reply to a tree has its reason, and a reply of status 0 has the text that comes of a job.
use Rattle.std.proofs.Common.{◌≡◌, ℕ, List, Option, Some, None, Ok, Err, refl, arith}
use Rattle.serde_json.specs.Data.{Data}
use Rattle.abi_document.specs.Documents.{PlainJob, job_of}
use Rattle.abi_document.specs.declared.command.Command.{Command}
use Rattle.abi_tool.specs.Answers.{code_of}
use Rattle.abi_tool.specs.Outcomes.{Outcome, outcome_of}
use Rattle.abi_tool.specs.Reply.{reply_by, reply_to_document, reply_to_tree, IsDone, IsNoJob, IsRefused}
use Rattle.abi_tool.specs.declared.answer.Answer.{Answer}
use Rattle.abi_tool.specs.declared.answer.Answer.TheVariants.{Done, TooLong, NotJson, NotAJob, Refused}

-- what an answer to a tree says of it; two answers speak of bytes that have no tree, and never come
abbrev pub TreeMeans : Command → Answer → Data → Type 0
TreeMeans command Done tree = IsDone command tree
TreeMeans command NotAJob tree = IsNoJob command tree
TreeMeans command Refused tree = IsRefused command tree
TreeMeans command TooLong tree = ⊥
TreeMeans command NotJson tree = ⊥

means_outcome : (command : Command) (tree : Data) (job : PlainJob) (outcome : Outcome) → job_of command tree ≡ Some job → outcome_of job ≡ outcome
    → TreeMeans command (reply_by outcome).answer tree
means_outcome command tree job (Ok text) j o = (job, text, j, o)
means_outcome command tree job (Err fault) j o = (job, fault, j, o)

means_document : (command : Command) (tree : Data) (job : Option PlainJob) → job_of command tree ≡ job → TreeMeans command (reply_to_document job).answer tree
means_document command tree (Some job) j = means_outcome command tree job (outcome_of job) j refl
means_document command tree None j = j

pub means_tree : (command : Command) (tree : Data) → TreeMeans command (reply_to_tree command tree).answer tree
unfolding reply_to_tree
means_tree command tree = means_document command tree (job_of command tree) refl

-- the tree is a job of which this text comes
pub record ComesOf (command : Command) (tree : Data) (text : List ℕ) : Type 0 where
  pub job : PlainJob
  pub is_job : job_of command tree ≡ Some job
  pub is_text : outcome_of job ≡ Ok text

done_outcome : (command : Command) (tree : Data) (job : PlainJob) (outcome : Outcome) → job_of command tree ≡ Some job → outcome_of job ≡ outcome
    → code_of (reply_by outcome).answer ≡ 0 → ComesOf command tree (reply_by outcome).text
done_outcome command tree job (Ok text) j o c = record { job = job; is_job = j; is_text = o }
done_outcome command tree job (Err fault) j o c = absurd (omega (arith, c))

done_document : (command : Command) (tree : Data) (job : Option PlainJob) → job_of command tree ≡ job
    → code_of (reply_to_document job).answer ≡ 0 → ComesOf command tree (reply_to_document job).text
done_document command tree (Some job) j c = done_outcome command tree job (outcome_of job) j refl c
done_document command tree None j c = absurd (omega (arith, c))

pub done_tree : (command : Command) (tree : Data) → code_of (reply_to_tree command tree).answer ≡ 0 → ComesOf command tree (reply_to_tree command tree).text
unfolding reply_to_tree
done_tree command tree c = done_document command tree (job_of command tree) refl c
