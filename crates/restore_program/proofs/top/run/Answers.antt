use Rattle.std.proofs.Common.{List, ℕ, Option, map, sym, subst, ◌∙◌, refl, inl, inr}
use Rattle.std.specs.String.{string_bytes}
use Rattle.sr_outside.specs.Told.{Held}
use Rattle.restore_program.specs.Says.{Says}
use Rattle.restore_program.specs.Status.{IsPlain}
use Rattle.restore_program.specs.Reply.{IsResult, status_of, text_of}
use Rattle.restore_program.specs.Sound.{IsCompleted}
use Rattle.restore_program.proofs.Answering.{says}
use Rattle.restore_program.proofs.Sounding.{again_reply, check_reply, clash_reply, completes, sound_reply, valid_reply}
use Rattle.restore_program.proofs.ReplyStatuses.{fault_status, status_is_written, status_of_fault, status_of_words}
use Rattle.restore_program.proofs.top.run.Goals as goal

pub returns-in-Ok-clause-answer : goal.returns-in-Ok-clause-answer
returns-in-Ok-clause-answer g c _ =
    let words : List (List ℕ) = map string_bytes c.args.words.now in
    let told : Option Held = g.I.Inputs.held c.args.inputs.now in (
      text_of words c.prepared_reply-reply.result.reply,
      c.in-Ok.ensures.appended,
      subst (Says words told (g.I.Inputs.shaky c.args.inputs.now) (text_of words c.prepared_reply-reply.result.reply)) (sym c.reply_status-status.ensures)
          (says words told (g.I.Inputs.shaky c.args.inputs.now) c.prepared_reply-reply.result.reply c.prepared_reply-reply.ensures.ready c.prepared_reply-reply.ensures.answer c.prepared_reply-reply.ensures.reads.cause),
    )

pub returns-in-Ok-clause-sound : goal.returns-in-Ok-clause-sound
returns-in-Ok-clause-sound g c e asks = (
  text_of (map string_bytes c.args.words.now) c.prepared_reply-reply.result.reply,
  c.in-Ok.ensures.appended,
  sound_reply (map string_bytes c.args.words.now) c.prepared_reply-reply.result.reply (g.I.Inputs.held c.args.inputs.now) asks c.prepared_reply-reply.ensures.answer (sym c.reply_status-status.ensures ∙ e),
)

pub returns-in-Ok-clause-again : goal.returns-in-Ok-clause-again
returns-in-Ok-clause-again g c e asks = (
  text_of (map string_bytes c.args.words.now) c.prepared_reply-reply.result.reply,
  c.in-Ok.ensures.appended,
  again_reply (map string_bytes c.args.words.now) c.prepared_reply-reply.result.reply (g.I.Inputs.held c.args.inputs.now) asks c.prepared_reply-reply.ensures.answer (sym c.reply_status-status.ensures ∙ e),
)

pub returns-in-Ok-clause-contradiction : goal.returns-in-Ok-clause-contradiction
returns-in-Ok-clause-contradiction g c e =
    clash_reply (map string_bytes c.args.words.now) c.prepared_reply-reply.result.reply (g.I.Inputs.held c.args.inputs.now) c.prepared_reply-reply.ensures.answer (sym c.reply_status-status.ensures ∙ e)

pub returns-in-Ok-clause-certified : goal.returns-in-Ok-clause-certified
returns-in-Ok-clause-certified g c result asks = (
  text_of (map string_bytes c.args.words.now) c.prepared_reply-reply.result.reply,
  c.in-Ok.ensures.appended,
  valid_reply (map string_bytes c.args.words.now) c.prepared_reply-reply.result.reply (g.I.Inputs.held c.args.inputs.now) asks c.prepared_reply-reply.ensures.answer (subst IsResult c.reply_status-status.ensures result),
)

pub returns-in-Ok-clause-checked : goal.returns-in-Ok-clause-checked
returns-in-Ok-clause-checked g c result asks = (
  text_of (map string_bytes c.args.words.now) c.prepared_reply-reply.result.reply,
  c.in-Ok.ensures.appended,
  check_reply (map string_bytes c.args.words.now) c.prepared_reply-reply.result.reply (g.I.Inputs.held c.args.inputs.now) asks c.prepared_reply-reply.ensures.answer (subst IsResult c.reply_status-status.ensures result),
)

pub returns-in-Ok-clause-completed : goal.returns-in-Ok-clause-completed
returns-in-Ok-clause-completed g c held request enough asks accepted =
    subst (λ status. IsPlain status → IsCompleted request status) (sym c.reply_status-status.ensures)
    (completes (map string_bytes c.args.words.now) c.prepared_reply-reply.result.reply (g.I.Inputs.held c.args.inputs.now) c.prepared_reply-reply.ensures.answer held request enough asks accepted)

pub returns-in-Ok-clause-usage : goal.returns-in-Ok-clause-usage
returns-in-Ok-clause-usage g c e =
    c.prepared_reply-reply.ensures.of_words (status_of_words (map string_bytes c.args.words.now) c.prepared_reply-reply.result.reply c.prepared_reply-reply.ensures.ready (sym c.reply_status-status.ensures ∙ e))

pub returns-in-Ok-clause-refused : goal.returns-in-Ok-clause-refused
returns-in-Ok-clause-refused g c refused =
    inl (c.reply_status-status.ensures ∙ c.prepared_reply-reply.ensures.refused refused)

pub returns-in-Ok-clause-read_fault : goal.returns-in-Ok-clause-read_fault
returns-in-Ok-clause-read_fault g c e =
    c.prepared_reply-reply.ensures.reads.counted (status_of_fault (map string_bytes c.args.words.now) c.prepared_reply-reply.result.reply c.prepared_reply-reply.ensures.ready (sym c.reply_status-status.ensures ∙ e))

pub returns-in-Ok-clause-read_rose : goal.returns-in-Ok-clause-read_rose
returns-in-Ok-clause-read_rose g c rose = inl (c.reply_status-status.ensures ∙ fault_status c.prepared_reply-reply.result.reply (c.prepared_reply-reply.ensures.reads.rose rose))

pub returns-in-Ok-clause-write_fault : goal.returns-in-Ok-clause-write_fault
returns-in-Ok-clause-write_fault g c e = absurd (status_is_written (map string_bytes c.args.words.now) c.prepared_reply-reply.result.reply c.prepared_reply-reply.ensures.ready (sym c.reply_status-status.ensures ∙ e))

pub returns-in-Ok-clause-part : goal.returns-in-Ok-clause-part
returns-in-Ok-clause-part g c e = absurd (status_is_written (map string_bytes c.args.words.now) c.prepared_reply-reply.result.reply c.prepared_reply-reply.ensures.ready (sym c.reply_status-status.ensures ∙ e))

pub returns-in-Ok-clause-full : goal.returns-in-Ok-clause-full
returns-in-Ok-clause-full g c e = absurd (status_is_written (map string_bytes c.args.words.now) c.prepared_reply-reply.result.reply c.prepared_reply-reply.ensures.ready (sym c.reply_status-status.ensures ∙ e))

pub returns-clause-part : goal.returns-clause-part
returns-clause-part g c _ = (
  text_of (map string_bytes c.args.words.now) c.prepared_reply-reply.result.reply,
  status_of c.prepared_reply-reply.result.reply,
  c.in-Err.ensures.part,
  c.in-Err.ensures.lacks,
  says (map string_bytes c.args.words.now) (g.I.Inputs.held c.args.inputs.now) (g.I.Inputs.shaky c.args.inputs.now) c.prepared_reply-reply.result.reply c.prepared_reply-reply.ensures.ready c.prepared_reply-reply.ensures.answer c.prepared_reply-reply.ensures.reads.cause,
)

pub returns-clause-refused : goal.returns-clause-refused
returns-clause-refused g c refused = inr refl
