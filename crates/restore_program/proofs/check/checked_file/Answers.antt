use Rattle.std.proofs.Common.{◌≡◌, ◌<◌, ℕ, length, Ok, Err, refl, sym, subst}
use Rattle.std.specs.Prelude.{IfSome, IsErrOf}
use Rattle.sr_model.specs.Room.{WithRoom}
use Rattle.sr_outside.specs.declared.whole.ReadRefusal.TheVariants as reads
use Rattle.report.specs.declared.refusal.Part.TheVariants as parts
use Rattle.restore_program.specs.declared.reply.Reply.TheVariants as replies
use Rattle.restore_program.specs.Answer.{OnCertificate}
use Rattle.restore_program.specs.Certifying.{OnCheck}
use Rattle.restore_program.specs.Reads.{Reads}
use Rattle.restore_program.specs.Reply.{IsReady}
use Rattle.restore_program.specs.ReplyAnswers.{IsOfWords, Replies, refusal_fault}
use Rattle.restore_program.proofs.Answering.{of_held, unread_certificate, unread_input, unread_ready}
use Rattle.restore_program.proofs.Reading.{whole_read}
use Rattle.restore_program.proofs.check.checked_file.Goals as goal

pub returns-in-Ok-clause-answer : goal.returns-in-Ok-clause-answer
returns-in-Ok-clause-answer g c words =
    of_held words (g.I.Inputs.held c.args.inputs.now) c.args.certificate.now c.in-Ok.text.items (OnCheck c.args.n c.args.d.now) c.checked_reply.result c.in-Ok.ensures.bytes
    (subst (λ bytes. Replies words (OnCheck c.args.n c.args.d.now bytes) c.checked_reply.result) c.as_slice.ensures (c.checked_reply.ensures.answer words))

pub returns-in-Ok-clause-reads : goal.returns-in-Ok-clause-reads
returns-in-Ok-clause-reads g c =
    subst (Reads g.I.Inputs.held g.I.Inputs.shaky g.I.Inputs.faults c.args.inputs.now c.read_whole.new.inputs (λ file. file ≡ (parts.Certificate, c.args.certificate.now))) (sym c.checked_reply.ensures.no_fault)
    (whole_read g.I.Inputs.held g.I.Inputs.shaky g.I.Inputs.faults c.args.inputs.now c.read_whole.new.inputs _ (parts.Certificate, c.args.certificate.now) refl (Ok c.in-Ok.text)
    c.in-Ok.ensures.fault c.in-Ok.ensures.rose c.in-Ok.ensures.never_falls c.in-Ok.ensures.steady c.in-Ok.ensures.held c.in-Ok.ensures.shaky)

pub returns-in-Err-clause-reads : goal.returns-in-Err-clause-reads
returns-in-Err-clause-reads g c =
    subst (λ r. Reads g.I.Inputs.held g.I.Inputs.shaky g.I.Inputs.faults c.args.inputs.now c.read_whole.new.inputs (λ file. file ≡ (parts.Certificate, c.args.certificate.now)) (refusal_fault r)) (sym c.unread.ensures)
    (whole_read g.I.Inputs.held g.I.Inputs.shaky g.I.Inputs.faults c.args.inputs.now c.read_whole.new.inputs _ (parts.Certificate, c.args.certificate.now) refl (Err c.in-Err.refusal)
    c.in-Err.ensures.fault c.in-Err.ensures.rose c.in-Err.ensures.never_falls c.in-Err.ensures.steady c.in-Err.ensures.held c.in-Err.ensures.shaky)

pub returns-in-Err-clause-answer : goal.returns-in-Err-clause-answer
returns-in-Err-clause-answer g c words =
    subst (λ refusal. IfSome (g.I.Inputs.held c.args.inputs.now) (λ held. Replies words (OnCertificate held c.args.certificate.now c.args.n c.args.d.now) (replies.Refused refusal))) (sym c.unread.ensures)
    (unread_certificate words (g.I.Inputs.held c.args.inputs.now) c.args.certificate.now c.in-Err.refusal c.args.n c.args.d.now
    (subst (λ most. IsErrOf {T = WithRoom ℕ} (Err c.in-Err.refusal) reads.TooLong → IfSome (g.I.Inputs.held c.args.inputs.now) (λ held. IfSome (held c.args.certificate.now) (λ bytes. most < length bytes))) c.most_bytes.ensures c.in-Err.ensures.long_name)
    c.in-Err.ensures.not_held)

pub returns-in-Err-clause-ready : goal.returns-in-Err-clause-ready
returns-in-Err-clause-ready g c words = subst (λ refusal. IsReady words (replies.Refused refusal)) (sym c.unread.ensures) (unread_ready words parts.Certificate c.in-Err.refusal)

pub returns-in-Err-clause-not_of_words : goal.returns-in-Err-clause-not_of_words
returns-in-Err-clause-not_of_words g c = subst (λ refusal. ¬ IsOfWords (replies.Refused refusal)) (sym c.unread.ensures) (unread_input parts.Certificate c.in-Err.refusal)
