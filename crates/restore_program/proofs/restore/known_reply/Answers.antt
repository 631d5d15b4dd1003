use Rattle.std.proofs.Common.{sym, subst}
use Rattle.known_planes.specs.Planes.{has}
use Rattle.report.specs.Table.{table_text}
use Rattle.restore_program.specs.Answer.{OnRecording}
use Rattle.restore_program.specs.declared.status.Status.TheVariants as statuses
use Rattle.restore_program.proofs.Answering.{table_answer}
use Rattle.restore_program.proofs.restore.known_reply.Goals as goal

pub returns-clause-answer : goal.returns-clause-answer
returns-clause-answer c words plain =
    subst (λ n. OnRecording c.args.netlist c.args.dump.now c.args.all (table_text c.args.netlist n (has (record { circuit = c.args.netlist; cycles = n }) c.args.planes) c.args.traced c.args.all) statuses.Done) (sym c.cycles.ensures.value)
    (table_answer c.args.netlist c.args.dump.now c.args.all c.args.planes c.args.traced c.requires.known c.requires.traced)
