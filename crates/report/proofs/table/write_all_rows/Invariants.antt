use Rattle.netlist.specs.Wiring.{signals_below}
use Rattle.known_planes.specs.Planes.{has}
use Rattle.report.specs.Rows.{row_lines}
use Rattle.report.proofs.InTurn.{Wrote}
use Rattle.report.proofs.table.write_all_rows.Given as goal

-- the rows so far were written
abbrev pub invariant-loop-number : goal.invariant-loop-number
invariant-loop-number g l = Wrote g.K.Sink.written g.K.Sink.room g.K.Sink.faults l.initial.out l.out (row_lines l.p.circuit l.p.cycles (has l.p l.planes) (signals_below l.number))
