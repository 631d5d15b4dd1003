use Rattle.std.proofs.Common.{[], ◌∷◌, sym, subst}
use Rattle.std.specs.Prelude.{IfSome}
use Rattle.report.specs.declared.refusal.Part.TheVariants as parts
use Rattle.restore_program.specs.Answer.{IsNetlistOf, OnCertificate, OnDump}
use Rattle.restore_program.specs.Faults.{IsComeTo}
use Rattle.restore_program.specs.Reads.{Reads}
use Rattle.restore_program.specs.ReplyAnswers.{Replies, fault_of}
use Rattle.restore_program.specs.Requests.{checking, files_of}
use Rattle.restore_program.proofs.Answering.{netlist_read, netlist_refused}
use Rattle.restore_program.proofs.Reading.{read_then}
use Rattle.restore_program.proofs.check.check_reply.Goals as goal

pub returns-in-Ok-clause-answer : goal.returns-in-Ok-clause-answer
returns-in-Ok-clause-answer g c words =
    netlist_read words c.args.netlist.now (λ held n. OnDump held c.args.dump.now n (OnCertificate held c.args.certificate.now n)) c.checked_dump.result (g.I.Inputs.held c.args.inputs.now) c.in-Ok.n c.in-Ok.ensures.netlist
    (subst (λ told. IfSome told (λ held. Replies words (OnDump held c.args.dump.now c.in-Ok.n (OnCertificate held c.args.certificate.now c.in-Ok.n)) c.checked_dump.result)) (c.in-Ok.ensures.reads []).same_held (c.checked_dump.ensures.answer words))

pub returns-in-Ok-clause-reads : goal.returns-in-Ok-clause-reads
returns-in-Ok-clause-reads g c =
    read_then g.I.Inputs.held g.I.Inputs.shaky g.I.Inputs.faults c.args.inputs.now c.read_netlist.new.inputs c.checked_dump.new.inputs
    (IsComeTo (g.I.Inputs.held c.args.inputs.now) (files_of (checking c.args.netlist.now c.args.dump.now c.args.certificate.now))) (fault_of c.checked_dump.result)
    (c.in-Ok.ensures.reads ((parts.Dump, c.args.dump.now) ∷ (parts.Certificate, c.args.certificate.now) ∷ []))
    (subst (λ told. Reads g.I.Inputs.held g.I.Inputs.shaky g.I.Inputs.faults c.read_netlist.new.inputs c.checked_dump.new.inputs (IsComeTo told (files_of (checking c.args.netlist.now c.args.dump.now c.args.certificate.now))) (fault_of c.checked_dump.result))
    (c.in-Ok.ensures.reads []).same_held
    (c.checked_dump.ensures.reads c.args.netlist.now (subst (λ told. IfSome told (λ held. IsNetlistOf held c.args.netlist.now c.in-Ok.n)) (sym (c.in-Ok.ensures.reads []).same_held) c.in-Ok.ensures.netlist)))

pub returns-in-Err-clause-answer : goal.returns-in-Err-clause-answer
returns-in-Err-clause-answer g c words =
    netlist_refused words c.args.netlist.now (λ held n. OnDump held c.args.dump.now n (OnCertificate held c.args.certificate.now n)) c.in-Err.reply (g.I.Inputs.held c.args.inputs.now) (c.in-Err.ensures.refused words)

pub returns-in-Err-clause-reads : goal.returns-in-Err-clause-reads
returns-in-Err-clause-reads g c = c.in-Err.ensures.reads ((parts.Dump, c.args.dump.now) ∷ (parts.Certificate, c.args.certificate.now) ∷ [])
