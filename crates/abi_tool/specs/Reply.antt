-- The reply to a tree, and what an answer to it says.
use Rattle.std.specs.Prelude.{◌≡◌, ℕ, List, Option, Some, None, Ok, Err, codes}
use Rattle.serde_json.specs.Data.{Data}
use Rattle.abi_document.specs.Documents.{PlainJob, job_of}
use Rattle.abi_document.specs.declared.command.Command.{Command}
use Rattle.abi_tool.specs.Lines.{refused_line}
use Rattle.abi_tool.specs.Outcomes.{Outcome, outcome_of, made_outcome}
use Rattle.abi_tool.specs.declared.answer.Answer.TheVariants.{Done, NotAJob, Refused}
use Rattle.abi_tool.specs.declared.answer.Reply.{Reply}
use Rattle.abi_tool.specs.declared.fault.Fault.{Fault}

-- the text, or the line of the fault
abbrev pub reply_by : Outcome → Reply
reply_by (Ok text) = record { answer = Done; text = text }
reply_by (Err fault) = record { answer = Refused; text = refused_line fault }

abbrev pub reply_to_document : Option PlainJob → Reply
reply_to_document None = record { answer = NotAJob; text = codes "not a job\n" }
reply_to_document (Some job) = reply_by (outcome_of job)

unfoldable pub reply_to_tree : Command → Data → Reply
reply_to_tree command tree = reply_to_document (job_of command tree)

-- the reply without a document to `made` of k fields
abbrev pub made_reply : ℕ → Reply
made_reply k = reply_by (made_outcome k)

-- the tree is a job of which a text comes; it is no job; it is a job with a fault
abbrev pub IsDone : Command → Data → Type 0
IsDone command tree =
    (job : PlainJob) × (text : List ℕ) × (job_of command tree ≡ Some job)
    × (outcome_of job ≡ Ok text)

abbrev pub IsNoJob : Command → Data → Type 0
IsNoJob command tree = job_of command tree ≡ None

abbrev pub IsRefused : Command → Data → Type 0
IsRefused command tree =
    (job : PlainJob) × (fault : Fault) × (job_of command tree ≡ Some job)
    × (outcome_of job ≡ Err fault)
