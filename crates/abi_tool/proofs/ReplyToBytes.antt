-- What the reply to bytes says of them, and what the sink has after it.
use Rattle.std.proofs.Common.{◌≡◌, inl, inr, ℕ, ◌+◌, ◌<◌, ◌≤◌, ◌==◌, if◌then◌else◌, List, [], ◌++◌, Bool, true, false, cond, Option, Some, None, IfSome, length, nat_lt, refl, sym, ap, subst, ◌∙◌, arith, length-append}
use Rattle.std.specs.Io.KnownBytes.{Appends}
use Rattle.std.proofs.lemmas.Bool.{lt-ltb, ltb-true, ltb-false}
use Rattle.serde_json.specs.Data.{Data}
use Rattle.abi_document.specs.declared.command.Command.{Command}
use Rattle.abi_tool.specs.declared.answer.Answer.{Answer}
use Rattle.abi_tool.specs.declared.answer.Answer.TheVariants.{Done, TooLong, NotJson, NotAJob, Refused}
use Rattle.abi_tool.specs.declared.answer.Reply.{Reply}
use Rattle.abi_tool.specs.Moves.{limit, CameTooLong}
use Rattle.abi_tool.specs.Reading.{reading}
use Rattle.abi_tool.specs.Reply.{reply_to_tree}
use Rattle.abi_tool.specs.Answers.{code_of, reply_to_reading, reply_to_bytes, Replies, Means}
use Rattle.abi_tool.proofs.ReplyMeans.{TreeMeans, means_tree, ComesOf, done_tree}

-- the reply with "too long" chosen by a flag, in the place of the test of the length
abbrev chosen : Command → Bool → Option Data → Reply
chosen command long tree = cond long (record { answer = TooLong; text = [] }) (reply_to_reading command tree)

means_found : (command : Command) (bytes : List ℕ) (tree : Data) (answer : Answer)
    → length bytes ≤ limit → reading bytes ≡ Some tree → TreeMeans command answer tree → Means command answer bytes
means_found command bytes tree Done short e h = (short, (tree, e, h))
means_found command bytes tree NotAJob short e h = (short, (tree, e, h))
means_found command bytes tree Refused short e h = (short, (tree, e, h))
means_found command bytes tree TooLong short e h = absurd h
means_found command bytes tree NotJson short e h = absurd h

means_chosen : (command : Command) (bytes : List ℕ) (long : Bool) (tree : Option Data)
    → (long ≡ true → limit < length bytes) → (long ≡ false → length bytes ≤ limit) → reading bytes ≡ tree
    → Means command (chosen command long tree).answer bytes
means_chosen command bytes true tree above within e = above refl
means_chosen command bytes false None above within e = (within refl, e)
means_chosen command bytes false (Some tree) above within e =
    means_found command bytes tree (reply_to_tree command tree).answer (within refl) e (means_tree command tree)

means_bytes : (command : Command) (bytes : List ℕ) → Means command (reply_to_bytes command bytes).answer bytes
unfolding reply_to_bytes
means_bytes command bytes =
    means_chosen command bytes (nat_lt limit (length bytes)) (reading bytes)
    (ltb-true limit (length bytes)) (ltb-false limit (length bytes)) refl

-- an answer is known by its status
answer_of : ℕ → Answer
answer_of status =
    if status == 0 then Done else if status == 4 then TooLong else if status == 5 then NotJson
    else if status == 6 then NotAJob else Refused

answer_of_code : (answer : Answer) → answer_of (code_of answer) ≡ answer
unfolding answer_of
answer_of_code Done = refl
answer_of_code TooLong = refl
answer_of_code NotJson = refl
answer_of_code NotAJob = refl
answer_of_code Refused = refl

same_answer : (answer other : Answer) → code_of answer ≡ code_of other → answer ≡ other
same_answer answer other e = sym (answer_of_code answer) ∙ ap answer_of e ∙ answer_of_code other

pub means_told : (command : Command) (left : Option (List ℕ)) (reply : Reply) (status : ℕ)
    → IfSome left (λ bytes. reply ≡ reply_to_bytes command bytes) → status ≡ code_of reply.answer
    → IfSome left (λ bytes. (answer : Answer) → status ≡ code_of answer → Means command answer bytes)
means_told command None reply status told e = tt
means_told command (Some bytes) reply status told e =
    λ answer f. let P : Answer → Type 0 = λ a. Means command a bytes in
    subst P (sym (ap (λ (r : Reply). r.answer) told) ∙ same_answer reply.answer answer (sym e ∙ f)) (means_bytes command bytes)

-- a tree is never too long
found_is_short : (command : Command) (tree : Data) (answer : Answer) → TreeMeans command answer tree → code_of answer ≡ 4 → ⊥
found_is_short command tree TooLong h e = h
found_is_short command tree NotJson h e = h
found_is_short command tree Done h e = omega (arith, e)
found_is_short command tree NotAJob h e = omega (arith, e)
found_is_short command tree Refused h e = omega (arith, e)

silent_chosen : (command : Command) (long : Bool) (tree : Option Data)
    → code_of (chosen command long tree).answer ≡ 4 → (chosen command long tree).text ≡ []
silent_chosen command true tree e = refl
silent_chosen command false None e = absurd (omega (arith, e))
silent_chosen command false (Some tree) e =
    absurd (found_is_short command tree (reply_to_tree command tree).answer (means_tree command tree) e)

silent_bytes : (command : Command) (bytes : List ℕ)
    → code_of (reply_to_bytes command bytes).answer ≡ 4 → (reply_to_bytes command bytes).text ≡ []
unfolding reply_to_bytes
silent_bytes command bytes e = silent_chosen command (nat_lt limit (length bytes)) (reading bytes) e

pub silent_reply : (command : Command) (bytes : List ℕ) (reply : Reply)
    → reply ≡ reply_to_bytes command bytes → code_of reply.answer ≡ 4 → reply.text ≡ []
silent_reply command bytes reply told e =
    ap (λ (r : Reply). r.text) told
    ∙ silent_bytes command bytes (sym (ap (λ (r : Reply). code_of r.answer) told) ∙ e)

too_long : (command : Command) (bytes : List ℕ) → limit < length bytes
    → record { answer = TooLong; text = [] } ≡ reply_to_bytes command bytes
unfolding reply_to_bytes
too_long command bytes long = rw (lt-ltb limit (length bytes) long) refl

longer : (bytes front rest : List ℕ) → bytes ≡ front ++ rest → length front ≡ limit + 1 → limit < length bytes
longer bytes front rest e long =
    let total : length bytes ≡ length front + length rest = ap length e ∙ length-append front rest in
    omega (arith, total, long)

pub told_too_long : (command : Command) (old new : Option (List ℕ)) (text : List ℕ) → CameTooLong old new → text ≡ []
    → IfSome old (λ bytes. record { answer = TooLong; text = text } ≡ reply_to_bytes command bytes)
told_too_long command None new text came e = tt
told_too_long command (Some bytes) None text came e = absurd came.came
told_too_long command (Some bytes) (Some rest) text came e =
    ap (λ (t : List ℕ). record { answer = TooLong; text = t }) e
    ∙ too_long command bytes (longer bytes came.bytes rest came.came came.long)

-- the bytes have a tree, and it is a job of which this text comes
pub record IsWritten (command : Command) (bytes text : List ℕ) : Type 0 where
  pub tree : Data
  pub is_read : reading bytes ≡ Some tree
  pub comes : ComesOf command tree text

done_chosen : (command : Command) (bytes : List ℕ) (long : Bool) (tree : Option Data) → reading bytes ≡ tree
    → code_of (chosen command long tree).answer ≡ 0 → IsWritten command bytes (chosen command long tree).text
done_chosen command bytes true tree r c = absurd (omega (arith, c))
done_chosen command bytes false None r c = absurd (omega (arith, c))
done_chosen command bytes false (Some tree) r c = record { tree = tree; is_read = r; comes = done_tree command tree c }

done_bytes : (command : Command) (bytes : List ℕ) → code_of (reply_to_bytes command bytes).answer ≡ 0
    → IsWritten command bytes (reply_to_bytes command bytes).text
unfolding reply_to_bytes
done_bytes command bytes c = done_chosen command bytes (nat_lt limit (length bytes)) (reading bytes) refl c

-- with status 0 the sink got the text that comes of the job
pub done_reply : (command : Command) (bytes : List ℕ) (old new : Option (List ℕ)) (status : ℕ) → Replies (reply_to_bytes command bytes) old new status → status ≡ 0
    → (text : List ℕ) × IsWritten command bytes text × Appends old new text
done_reply command bytes old new status (inl done) z = ((reply_to_bytes command bytes).text, done_bytes command bytes (sym done.0 ∙ z), done.1)
done_reply command bytes old new status (inr (inl part)) z = absurd (omega (arith, part.0, z))
done_reply command bytes old new status (inr (inr (inl fault))) z = absurd (omega (arith, fault.0, z))
done_reply command bytes old new status (inr (inr (inr memory))) z = absurd (omega (arith, memory.0, z))
