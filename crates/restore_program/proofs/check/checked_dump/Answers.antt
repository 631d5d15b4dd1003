use Rattle.std.proofs.Common.{[], ◌∷◌, ◌≡◌, sym, subst}
use Rattle.std.specs.Prelude.{IfSome}
use Rattle.report.specs.declared.refusal.Part.TheVariants as parts
use Rattle.restore_program.specs.Answer.{OnCertificate}
use Rattle.restore_program.specs.Faults.{IsComeTo}
use Rattle.restore_program.specs.ReplyAnswers.{Replies, fault_of}
use Rattle.restore_program.specs.Requests.{checking, files_of}
use Rattle.restore_program.proofs.Answering.{dump_read, dump_refused}
use Rattle.restore_program.proofs.Files.{behind_dump, behind_netlist}
use Rattle.restore_program.proofs.Reading.{read_among, read_then}
use Rattle.restore_program.proofs.check.checked_dump.Goals as goal

pub returns-in-Ok-clause-answer : goal.returns-in-Ok-clause-answer
returns-in-Ok-clause-answer g c words =
    dump_read words c.args.dump.now c.args.n (λ held. OnCertificate held c.args.certificate.now c.args.n) c.checked_file.result (g.I.Inputs.held c.args.inputs.now) c.in-Ok.d c.in-Ok.ensures.dump
    (subst (λ told. IfSome told (λ held. Replies words (OnCertificate held c.args.certificate.now c.args.n c.in-Ok.d) c.checked_file.result)) c.in-Ok.ensures.reads.same_held (c.checked_file.ensures.answer words))

pub returns-in-Err-clause-answer : goal.returns-in-Err-clause-answer
returns-in-Err-clause-answer g c words =
    dump_refused words c.args.dump.now c.args.n (λ held. OnCertificate held c.args.certificate.now c.args.n) c.in-Err.reply (g.I.Inputs.held c.args.inputs.now) (c.in-Err.ensures.refused words)

pub returns-in-Ok-clause-reads : goal.returns-in-Ok-clause-reads
returns-in-Ok-clause-reads g c netlist is =
    read_then g.I.Inputs.held g.I.Inputs.shaky g.I.Inputs.faults c.args.inputs.now c.read_recording.new.inputs c.checked_file.new.inputs
    (IsComeTo (g.I.Inputs.held c.args.inputs.now) (files_of (checking netlist c.args.dump.now c.args.certificate.now))) (fault_of c.checked_file.result)
    (read_among _ _ _ _ _ _ _ _
    (λ file same. subst (IsComeTo (g.I.Inputs.held c.args.inputs.now) (files_of (checking netlist c.args.dump.now c.args.certificate.now))) (sym same)
    (behind_netlist (g.I.Inputs.held c.args.inputs.now) netlist c.args.n (parts.Dump, c.args.dump.now) ((parts.Certificate, c.args.certificate.now) ∷ []) is)) c.in-Ok.ensures.reads)
    (read_among _ _ _ _ _ _ _ _
    (λ file same. subst (IsComeTo (g.I.Inputs.held c.args.inputs.now) (files_of (checking netlist c.args.dump.now c.args.certificate.now))) (sym same)
    (behind_dump (g.I.Inputs.held c.args.inputs.now) netlist c.args.dump.now c.args.n c.in-Ok.d (parts.Certificate, c.args.certificate.now) [] is c.in-Ok.ensures.dump)) c.checked_file.ensures.reads)

pub returns-in-Err-clause-reads : goal.returns-in-Err-clause-reads
returns-in-Err-clause-reads g c netlist is =
    read_among _ _ _ _ _ _ _ _
    (λ file same. subst (IsComeTo (g.I.Inputs.held c.args.inputs.now) (files_of (checking netlist c.args.dump.now c.args.certificate.now))) (sym same)
    (behind_netlist (g.I.Inputs.held c.args.inputs.now) netlist c.args.n (parts.Dump, c.args.dump.now) ((parts.Certificate, c.args.certificate.now) ∷ []) is)) c.in-Err.ensures.reads
