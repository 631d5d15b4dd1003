use Rattle.std.proofs.Common.{[], ◌∷◌, sym, subst}
use Rattle.std.specs.Prelude.{IfSome}
use Rattle.report.specs.declared.refusal.Part.TheVariants as parts
use Rattle.restore_program.specs.Answer.{OnDump, OnRecording}
use Rattle.restore_program.specs.Faults.{IsComeTo}
use Rattle.restore_program.specs.ReplyAnswers.{Replies, fault_of}
use Rattle.restore_program.specs.Requests.{files_of, restoration}
use Rattle.restore_program.proofs.Answering.{netlist_read, netlist_refused}
use Rattle.restore_program.proofs.Files.{behind_netlist}
use Rattle.restore_program.proofs.Reading.{read_among, read_then}
use Rattle.restore_program.proofs.restore.restore_reply.Goals as goal

pub returns-in-Ok-clause-answer : goal.returns-in-Ok-clause-answer
returns-in-Ok-clause-answer g c words =
    netlist_read words c.args.netlist.now (λ held n. OnDump held c.args.dump.now n (λ d. OnRecording n d c.args.all)) c.dump_reply.result (g.I.Inputs.held c.args.inputs.now) c.in-Ok.n c.in-Ok.ensures.netlist
    (subst (λ told. IfSome told (λ held. Replies words (OnDump held c.args.dump.now c.in-Ok.n (λ d. OnRecording c.in-Ok.n d c.args.all)) c.dump_reply.result)) (c.in-Ok.ensures.reads []).same_held (c.dump_reply.ensures.answer words))

pub returns-in-Ok-clause-reads : goal.returns-in-Ok-clause-reads
returns-in-Ok-clause-reads g c =
    read_then g.I.Inputs.held g.I.Inputs.shaky g.I.Inputs.faults c.args.inputs.now c.read_netlist.new.inputs c.dump_reply.new.inputs
    (IsComeTo (g.I.Inputs.held c.args.inputs.now) (files_of (restoration c.args.netlist.now c.args.dump.now c.args.all))) (fault_of c.dump_reply.result) (c.in-Ok.ensures.reads ((parts.Dump, c.args.dump.now) ∷ []))
    (read_among _ _ _ _ _ _ _ _
    (λ file same. subst (IsComeTo (g.I.Inputs.held c.args.inputs.now) (files_of (restoration c.args.netlist.now c.args.dump.now c.args.all))) (sym same)
    (behind_netlist (g.I.Inputs.held c.args.inputs.now) c.args.netlist.now c.in-Ok.n (parts.Dump, c.args.dump.now) [] c.in-Ok.ensures.netlist)) c.dump_reply.ensures.reads)

pub returns-in-Err-clause-answer : goal.returns-in-Err-clause-answer
returns-in-Err-clause-answer g c words =
    netlist_refused words c.args.netlist.now (λ held n. OnDump held c.args.dump.now n (λ d. OnRecording n d c.args.all)) c.in-Err.reply (g.I.Inputs.held c.args.inputs.now) (c.in-Err.ensures.refused words)

pub returns-in-Err-clause-reads : goal.returns-in-Err-clause-reads
returns-in-Err-clause-reads g c = c.in-Err.ensures.reads ((parts.Dump, c.args.dump.now) ∷ [])
