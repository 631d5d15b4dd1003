use Rattle.std.proofs.Common.{subst}
use Rattle.known_planes.specs.Planes.{has}
use Rattle.report.specs.Table.{table_text}
use Rattle.report.specs.Writes.{Writes}
use Rattle.restore_program.proofs.reply.write_known.Goals as goal

pub returns : goal.returns
returns g c =
    subst (λ u. Writes g.K.Sink.written g.K.Sink.room g.K.Sink.faults c.args.out.now c.write_table.new.out c.write_table.result
    (table_text u.circuit u.cycles (has u c.args.table.now.planes) c.args.table.now.traced c.args.table.now.all)) c.new-problem.ensures c.write_table.ensures
