use Rattle.std.proofs.Common.{◌≡◌, sym, subst}
use Rattle.report.specs.declared.refusal.Part.TheVariants as parts
use Rattle.restore_program.specs.Certifying.{OnCertify}
use Rattle.restore_program.specs.Reads.{Reads}
use Rattle.restore_program.proofs.Answering.{dump_read, dump_refused, told_or_not}
use Rattle.restore_program.proofs.certify.certified_dump.Goals as goal

pub returns-in-Ok-clause-answer : goal.returns-in-Ok-clause-answer
returns-in-Ok-clause-answer g c words =
    dump_read words c.args.dump.now c.args.n (λ held. OnCertify c.args.n) c.certified_reply.result (g.I.Inputs.held c.args.inputs.now) c.in-Ok.d c.in-Ok.ensures.dump
    (told_or_not (g.I.Inputs.held c.args.inputs.now) _ (λ held. c.certified_reply.ensures.answer words))

pub returns-in-Err-clause-answer : goal.returns-in-Err-clause-answer
returns-in-Err-clause-answer g c words = dump_refused words c.args.dump.now c.args.n (λ held. OnCertify c.args.n) c.in-Err.reply (g.I.Inputs.held c.args.inputs.now) (c.in-Err.ensures.refused words)

pub returns-in-Ok-clause-reads : goal.returns-in-Ok-clause-reads
returns-in-Ok-clause-reads g c =
    subst (Reads g.I.Inputs.held g.I.Inputs.shaky g.I.Inputs.faults c.args.inputs.now c.read_recording.new.inputs (λ file. file ≡ (parts.Dump, c.args.dump.now))) (sym c.certified_reply.ensures.no_fault) c.in-Ok.ensures.reads
