-- What holds of a reply before it is written.
use Rattle.std.specs.Prelude.{ℕ, ⊤, List, Option, Some, None, Result, Ok, Err}
use Rattle.sr_outside.specs.Told.{Held}
use Rattle.sr_outside.specs.declared.whole.ReadRefusal.{ReadRefusal}
use Rattle.sr_outside.specs.declared.whole.ReadRefusal.TheVariants as reads
use Rattle.report.specs.declared.refusal.Part.{Part}
use Rattle.report.specs.declared.refusal.Refusal.{Refusal}
use Rattle.report.specs.declared.refusal.Refusal.TheVariants as refusals
use Rattle.restore_program.specs.declared.reply.Reply.{Reply}
use Rattle.restore_program.specs.declared.reply.Reply.TheVariants as replies
use Rattle.restore_program.specs.declared.status.Status.{Status}
use Rattle.restore_program.specs.Answer.{Answer}
use Rattle.restore_program.specs.Faults.{TellsEnough}
use Rattle.restore_program.specs.Reply.{text_of, status_of}
use Rattle.restore_program.specs.Status.{IsPlain}

-- on these words, the reply's text and status are an answer, unless an input was not read or memory was refused
abbrev pub Replies : List (List ℕ) → (List ℕ → Status → Type 0) → Reply → Type 0
Replies words P reply = IsPlain (status_of reply) → P (text_of words reply) (status_of reply)

-- the refusal is about the words
abbrev pub IsWordsRefusal : Refusal → Type 0
IsWordsRefusal (refusals.Words refusal) = ⊤
IsWordsRefusal (refusals.WidthOver flip_flops) = ⊤
IsWordsRefusal (refusals.TraceUnknown place item) = ⊤
IsWordsRefusal (refusals.TraceTwice place item) = ⊤
IsWordsRefusal _ = ⊥

abbrev pub IsOfWords : Reply → Type 0
IsOfWords (replies.Refused refusal) = IsWordsRefusal refusal
IsOfWords _ = ⊥

-- the part of which it is said that it was not read
abbrev pub refusal_fault : Refusal → Option Part
refusal_fault (refusals.Fault part) = Some part
refusal_fault _ = None

abbrev pub fault_of : Reply → Option Part
fault_of (replies.Refused refusal) = refusal_fault refusal
fault_of _ = None

-- a reply in place of a value
abbrev pub fault_in : {V : Type 0} → Result V Reply → Option Part
fault_in (Ok value) = None
fault_in (Err reply) = fault_of reply

-- what is written of an input that was not read
abbrev pub unread_refusal : Part → ReadRefusal → Refusal
unread_refusal part reads.Fault = refusals.Fault part
unread_refusal part reads.TooLong = refusals.TooLong part
unread_refusal part reads.NoMemory = refusals.NoMemory

-- what the words ask for is answered
abbrev pub ReplyAnswer : List (List ℕ) → Option Held → Reply → Type 0
ReplyAnswer words told reply = (held : Held) → TellsEnough words told held → Replies words (Answer words held) reply
