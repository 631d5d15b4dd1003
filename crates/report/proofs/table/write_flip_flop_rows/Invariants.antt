use Rattle.std.proofs.Common.{take}
use Rattle.netlist.specs.Wiring.{flip_flops}
use Rattle.known_planes.specs.Planes.{has}
use Rattle.report.specs.Rows.{row_lines}
use Rattle.report.proofs.InTurn.{Wrote}
use Rattle.report.proofs.table.write_flip_flop_rows.Given as goal

-- the rows so far were written
abbrev pub invariant-loop-sig : goal.invariant-loop-sig
invariant-loop-sig g l =
    Wrote g.K.Sink.written g.K.Sink.room g.K.Sink.faults l.initial.out l.out (row_lines l.p.circuit l.p.cycles (has l.p l.planes) (take l.sig-index (flip_flops l.p.circuit.drivers)))
