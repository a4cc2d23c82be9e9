-- Which trees of JSON are documents, and the job that each tells.
use Rattle.std.specs.Prelude.{ℕ, List, [], ◌∷◌, not, Option, Some, None, option_map, ⊤, codes, if◌then◌else◌}
use Rattle.std.specs.Option.{option_map_or}
use Rattle.serde_json.specs.Data.{Data}
use Rattle.serde_json.specs.Find.{get}
use Rattle.abi_num.specs.declared.target.Target.{Target}
use Rattle.abi_layout.specs.Trees.{Tree, tree}
use Rattle.abi_pack.specs.EditLists.{PlainEdit, plain_edits}
use Rattle.abi_pack.specs.Plain.{Plain}
use Rattle.abi_pack.specs.View.{plain}
use Rattle.abi_document.specs.Forms.{◌>>=◌, has_only, under, bytes_of}
use Rattle.abi_document.specs.Descriptions.{desc_at}
use Rattle.abi_document.specs.Edits.{AreFew, levels, edits_of}
use Rattle.abi_document.specs.Targets.{target_of}
use Rattle.abi_document.specs.Values.{value_at}
use Rattle.abi_document.specs.declared.command.Command.{Command}
use Rattle.abi_document.specs.declared.command.Command.TheVariants.{Pack, Layout, Read, Edit, Report}
use Rattle.abi_document.specs.declared.job.Job.{Job}
use Rattle.abi_document.specs.declared.job.Work.{Work}
use Rattle.abi_document.specs.declared.job.Work.TheVariants as work

-- what is to be done, as plain data
pub data Task : Type 0 where
  -- the value of the description, and its edits in order
  pack : Tree → Plain → List PlainEdit → Task
  -- the layout of the description
  layout : Tree → Task
  -- the value of the description that the bytes show
  read : Tree → List ℕ → Task
  -- the bytes that show a value of the description, and its edits in order
  edit : Tree → List ℕ → List PlainEdit → Task
  -- the report of the description
  report : Tree → Task

pub record PlainJob : Type 0 where
  pub target : Target
  pub task : Task

abbrev pub task_of : Work → Task
task_of (work.Pack desc value edits) = pack (tree desc) (plain value) (plain_edits edits)
task_of (work.Layout desc) = layout (tree desc)
task_of (work.Read desc bytes) = read (tree desc) bytes
task_of (work.Edit desc bytes edits) = edit (tree desc) bytes (plain_edits edits)
task_of (work.Report desc) = report (tree desc)

abbrev pub plain_job : Job → PlainJob
plain_job job = record { target = job.target; task = task_of job.work }

-- a job has as few edits as `run` takes
abbrev pub HasFewEdits : Work → Type 0
HasFewEdits (work.Pack desc value edits) = AreFew edits
HasFewEdits (work.Layout desc) = ⊤
HasFewEdits (work.Read desc bytes) = ⊤
HasFewEdits (work.Edit desc bytes edits) = AreFew edits
HasFewEdits (work.Report desc) = ⊤

-- the keys that a document of the command may have
abbrev pub keys_of : Command → List (List ℕ)
keys_of Pack = codes "target" ∷ codes "desc" ∷ codes "value" ∷ codes "edits" ∷ []
keys_of Layout = codes "target" ∷ codes "desc" ∷ []
keys_of Read = codes "target" ∷ codes "desc" ∷ codes "bytes" ∷ []
keys_of Edit = codes "target" ∷ codes "desc" ∷ codes "bytes" ∷ codes "edits" ∷ []
keys_of Report = codes "target" ∷ codes "desc" ∷ []

-- the description of a document
abbrev pub desc_in : Data → Option Tree
desc_in d = under (codes "desc") (desc_at levels) d

-- the edits of a document
abbrev pub edits_in : Data → Option (List PlainEdit)
edits_in d = under (codes "edits") edits_of d

-- without the key there are none
abbrev pub edits_or_none : Data → Option (List PlainEdit)
edits_or_none d = option_map_or edits_of (get (codes "edits") d) (Some [])

abbrev pub pack_work : Data → Option Task
pack_work d = do
  desc ← desc_in d
  value ← under (codes "value") (value_at levels) d
  edits ← edits_or_none d
  Some (pack desc value edits)

abbrev pub layout_work : Data → Option Task
layout_work d = option_map layout (desc_in d)

abbrev pub read_work : Data → Option Task
read_work d = do
  desc ← desc_in d
  bytes ← under (codes "bytes") bytes_of d
  Some (read desc bytes)

abbrev pub edit_work : Data → Option Task
edit_work d = do
  desc ← desc_in d
  bytes ← under (codes "bytes") bytes_of d
  edits ← edits_in d
  Some (edit desc bytes edits)

abbrev pub report_work : Data → Option Task
report_work d = option_map report (desc_in d)

-- what a document of the command asks for, beside its target
abbrev pub work_in : Command → Data → Option Task
work_in Pack d = pack_work d
work_in Layout d = layout_work d
work_in Read d = read_work d
work_in Edit d = edit_work d
work_in Report d = report_work d

-- the job of a document of the command: an object with its keys alone, a target and what is to be done
unfoldable pub job_of : Command → Data → Option PlainJob
job_of command d = if not (has_only (keys_of command) d) then None else do
  target ← under (codes "target") target_of d
  task ← work_in command d
  Some (record { target = target; task = task })
