use Rattle.std.proofs.Common.{◌≡◌, ◌<◌, ℕ, length, Ok, Err, refl, sym, subst}
use Rattle.std.specs.Prelude.{IfSome, IsErrOf}
use Rattle.sr_model.specs.Room.{WithRoom}
use Rattle.sr_outside.specs.declared.whole.ReadRefusal.TheVariants as reads
use Rattle.report.specs.declared.refusal.Part.TheVariants as parts
use Rattle.restore_program.specs.declared.reply.Reply.TheVariants as replies
use Rattle.restore_program.specs.Answer.{OnRefusedDump}
use Rattle.restore_program.specs.Reads.{Reads}
use Rattle.restore_program.specs.Reply.{IsReady}
use Rattle.restore_program.specs.ReplyAnswers.{IsOfWords, Replies, refusal_fault}
use Rattle.restore_program.specs.Texts.{RefusedDump}
use Rattle.restore_program.proofs.Answering.{refused_by_text, unread_dump, unread_input, unread_ready}
use Rattle.restore_program.proofs.Reading.{whole_read}
use Rattle.restore_program.proofs.recordings.read_recording.Goals as goal

pub returns-in-Ok-clause-refused : goal.returns-in-Ok-clause-refused
returns-in-Ok-clause-refused g c =
    refused_by_text (g.I.Inputs.held c.args.inputs.now) c.args.name.now c.in-Ok.text.items (RefusedDump c.args.n.now) c.parse_dump.result c.in-Ok.ensures.bytes c.parse_dump.ensures.refused

pub returns-in-Ok-clause-reads : goal.returns-in-Ok-clause-reads
returns-in-Ok-clause-reads g c =
    subst (Reads g.I.Inputs.held g.I.Inputs.shaky g.I.Inputs.faults c.args.inputs.now c.read_whole.new.inputs (λ file. file ≡ (parts.Dump, c.args.name.now))) (sym c.parse_dump.ensures.no_fault)
    (whole_read g.I.Inputs.held g.I.Inputs.shaky g.I.Inputs.faults c.args.inputs.now c.read_whole.new.inputs _ (parts.Dump, c.args.name.now) refl (Ok c.in-Ok.text)
    c.in-Ok.ensures.fault c.in-Ok.ensures.rose c.in-Ok.ensures.never_falls c.in-Ok.ensures.steady c.in-Ok.ensures.held c.in-Ok.ensures.shaky)

pub returns-in-Err-clause-reads : goal.returns-in-Err-clause-reads
returns-in-Err-clause-reads g c =
    subst (λ r. Reads g.I.Inputs.held g.I.Inputs.shaky g.I.Inputs.faults c.args.inputs.now c.read_whole.new.inputs (λ file. file ≡ (parts.Dump, c.args.name.now)) (refusal_fault r)) (sym c.unread.ensures)
    (whole_read g.I.Inputs.held g.I.Inputs.shaky g.I.Inputs.faults c.args.inputs.now c.read_whole.new.inputs _ (parts.Dump, c.args.name.now) refl (Err c.in-Err.refusal)
    c.in-Err.ensures.fault c.in-Err.ensures.rose c.in-Err.ensures.never_falls c.in-Err.ensures.steady c.in-Err.ensures.held c.in-Err.ensures.shaky)

pub returns-in-Err-clause-refused : goal.returns-in-Err-clause-refused
returns-in-Err-clause-refused g c words =
    subst (λ refusal. IfSome (g.I.Inputs.held c.args.inputs.now) (λ held. Replies words (OnRefusedDump held c.args.name.now c.args.n.now) (replies.Refused refusal))) (sym c.unread.ensures)
    (unread_dump words (g.I.Inputs.held c.args.inputs.now) c.args.name.now c.in-Err.refusal c.args.n.now
    (subst (λ most. IsErrOf {T = WithRoom ℕ} (Err c.in-Err.refusal) reads.TooLong → IfSome (g.I.Inputs.held c.args.inputs.now) (λ held. IfSome (held c.args.name.now) (λ bytes. most < length bytes))) c.most_bytes.ensures c.in-Err.ensures.long_name)
    c.in-Err.ensures.not_held)

pub returns-in-Err-clause-ready : goal.returns-in-Err-clause-ready
returns-in-Err-clause-ready g c words = subst (λ refusal. IsReady words (replies.Refused refusal)) (sym c.unread.ensures) (unread_ready words parts.Dump c.in-Err.refusal)

pub returns-in-Err-clause-not_of_words : goal.returns-in-Err-clause-not_of_words
returns-in-Err-clause-not_of_words g c = subst (λ refusal. ¬ IsOfWords (replies.Refused refusal)) (sym c.unread.ensures) (unread_input parts.Dump c.in-Err.refusal)
