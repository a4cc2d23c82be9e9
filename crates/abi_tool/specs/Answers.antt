-- The program as a function of its words and the bytes of its document: a status, and the text that is written.
use Rattle.std.specs.Prelude.{◌≡◌, ◌≢◌, ◌⊎◌, ℕ, ◌+◌, ◌<◌, ◌≤◌, ◌==◌, List, [], ◌∷◌, Option, Some, None, codes, length, drop, nat_lt, if◌then◌else◌, IsTrue, ⊤}
use Rattle.std.specs.Option.{option_map}
use Rattle.std.specs.Str.{bytes_eq}
use Rattle.std.specs.Io.KnownBytes.{Appends, Keeps}
use Rattle.serde_json.specs.Data.{Data}
use Rattle.abi_document.specs.Forms.{by_name}
use Rattle.abi_document.specs.Made.{is_count, made_count}
use Rattle.abi_document.specs.declared.command.Command.{Command}
use Rattle.abi_document.specs.declared.command.Command.TheVariants.{Pack, Layout, Read, Edit, Report}
use Rattle.abi_tool.specs.declared.answer.Answer.{Answer}
use Rattle.abi_tool.specs.declared.answer.Answer.TheVariants.{Done, TooLong, NotJson, NotAJob, Refused}
use Rattle.abi_tool.specs.declared.answer.Reply.{Reply}
use Rattle.abi_tool.specs.Moves.{limit, WentInPart}
use Rattle.abi_tool.specs.Reading.{reading}
use Rattle.abi_tool.specs.Reply.{reply_to_tree, made_reply, IsDone, IsNoJob, IsRefused}
use Rattle.abi_tool.specs.declared.command.Invocation.{Invocation}
use Rattle.abi_tool.specs.declared.command.Invocation.TheVariants.{Document, Made}

-- the commands that read a document
abbrev pub commands : List (List ℕ × Command)
commands =
    (codes "pack", Pack) ∷ (codes "layout", Layout) ∷ (codes "read", Read) ∷ (codes "edit", Edit)
    ∷ (codes "report", Report) ∷ []

-- what the words ask for, where they are listed
abbrev pub invocation_of : List (List ℕ) → Option Invocation
invocation_of [] = None
invocation_of (word ∷ []) = option_map Document (by_name commands word)
invocation_of (word ∷ count ∷ []) =
    if bytes_eq word (codes "made") then option_map Made (made_count count) else None
invocation_of (word ∷ count ∷ more ∷ words) = None

-- the count of a made job is one that such a job may have
abbrev pub IsCounted : Invocation → Type 0
IsCounted (Document command) = ⊤
IsCounted (Made k) = IsTrue (is_count k)

-- the exit status of an answer; 1 stands for unlisted words, 2 and 3 for a fault, 8 for want of memory
abbrev pub code_of : Answer → ℕ
code_of Done = 0
code_of TooLong = 4
code_of NotJson = 5
code_of NotAJob = 6
code_of Refused = 7

abbrev pub reply_to_reading : Command → Option Data → Reply
reply_to_reading command None = record { answer = NotJson; text = codes "not JSON\n" }
reply_to_reading command (Some tree) = reply_to_tree command tree

unfoldable pub reply_to_bytes : Command → List ℕ → Reply
reply_to_bytes command bytes =
    if nat_lt limit (length bytes) then record { answer = TooLong; text = [] }
    else reply_to_reading command (reading bytes)

abbrev pub reply_to_invocation : Invocation → List ℕ → Reply
reply_to_invocation (Document command) bytes = reply_to_bytes command bytes
reply_to_invocation (Made k) bytes = made_reply k

-- the reply to words and a document; unlisted words have none
abbrev pub reply_to : List (List ℕ) → List ℕ → Option Reply
reply_to words bytes = option_map (λ asked. reply_to_invocation asked bytes) (invocation_of words)

-- the sink got the reply's text, or a beginning of it with status 3, or nothing with status 2 or 8
abbrev pub Replies : Reply → Option (List ℕ) → Option (List ℕ) → ℕ → Type 0
Replies reply old new status =
    ((status ≡ code_of reply.answer) × Appends old new reply.text)
    ⊎ ((status ≡ 3) × WentInPart old new reply.text)
    ⊎ ((status ≡ 2) × Keeps old new)
    ⊎ ((status ≡ 8) × Keeps old new)

abbrev pub Answers : Option Reply → Option (List ℕ) → Option (List ℕ) → ℕ → Type 0
Answers None old new status = (status ≡ 1) × Keeps old new
Answers (Some reply) old new status = Replies reply old new status

-- the status that a reply asks for
abbrev pub status_of : Option Reply → ℕ
status_of None = 1
status_of (Some reply) = code_of reply.answer

-- the bytes are not too long, and have a tree of which this holds
abbrev pub HasTree : List ℕ → (Data → Type 0) → Type 0
HasTree bytes P = (length bytes ≤ limit) × ((tree : Data) × (reading bytes ≡ Some tree) × P tree)

-- what an answer says of the document's bytes
abbrev pub Means : Command → Answer → List ℕ → Type 0
Means command TooLong bytes = limit < length bytes
Means command NotJson bytes = (length bytes ≤ limit) × (reading bytes ≡ None)
Means command NotAJob bytes = HasTree bytes (IsNoJob command)
Means command Refused bytes = HasTree bytes (IsRefused command)
Means command Done bytes = HasTree bytes (IsDone command)

-- what a status says of the document's bytes, where it is that of an answer
abbrev pub StatusMeans : Option Invocation → ℕ → List ℕ → Type 0
StatusMeans None status bytes = status ≡ 1
StatusMeans (Some (Document command)) status bytes =
    (answer : Answer) → status ≡ code_of answer → Means command answer bytes
StatusMeans (Some (Made k)) status bytes = (status ≡ 0) ⊎ (status ≡ 3) ⊎ (status ≡ 8)

-- no document is read
abbrev pub ReadsNone : Option Invocation → Type 0
ReadsNone None = ⊤
ReadsNone (Some (Document command)) = ⊥
ReadsNone (Some (Made k)) = ⊤

-- P holds of the number of fields, where a made job is asked for
abbrev pub IfMade : Option Invocation → (ℕ → Type 0) → Type 0
IfMade None P = ⊤
IfMade (Some (Document command)) P = ⊤
IfMade (Some (Made k)) P = P k

-- the source still has these bytes after a status other than 2 and 8
abbrev pub LeavesRest : List ℕ → ℕ → Option (List ℕ) → Type 0
LeavesRest rest status left = status ≢ 2 → status ≢ 8 → left ≡ Some rest

-- what a document's source still has after a status other than 2 and 8
abbrev pub rest_of_document : ℕ → List ℕ → List ℕ
rest_of_document status bytes = if status == 4 then drop (limit + 1) bytes else []

abbrev pub rest_after : Option Invocation → ℕ → List ℕ → List ℕ
rest_after None status bytes = bytes
rest_after (Some (Document command)) status bytes = rest_of_document status bytes
rest_after (Some (Made k)) status bytes = bytes

-- the statuses with which nothing is written
abbrev pub IsSilent : ℕ → Type 0
IsSilent status = (status ≡ 1) ⊎ (status ≡ 2) ⊎ (status ≡ 4) ⊎ (status ≡ 8)
