use Rattle.std.proofs.Common.{◌<◌, length, ap, subst, ◌∙◌}
use Rattle.std.proofs.lemmas.Result.{err_from_is_err_and}
use Rattle.known_planes.specs.Planes.{has}
use Rattle.netlist.specs.Wiring.{signals_below}
use Rattle.unroll.specs.Problem.{signals_in}
use Rattle.report.specs.Rows.{row_line, row_lines}
use Rattle.report.proofs.InTurn.{writes_fault, wrote_both, wrote_none, wrote_whole}
use Rattle.report.proofs.Tables.{signals_at, signals_more}
use Rattle.report.proofs.table.write_all_rows.Goals as goal

pub loop-number-init : goal.loop-number-init
loop-number-init g c = wrote_none g.K.Sink.written g.K.Sink.room g.K.Sink.faults c.args.out.now

pub loop-number-preserved : goal.loop-number-preserved
loop-number-preserved g c =
    wrote_both g.K.Sink.written g.K.Sink.room g.K.Sink.faults c.args.out.now c.loop-number.out c.write_row.new.out
    (row_lines c.args.p.now.circuit c.args.p.now.cycles (has c.args.p.now c.args.planes.now) (signals_below c.loop-number.number)) _ _
    (signals_more (row_line c.args.p.now.circuit c.args.p.now.cycles (has c.args.p.now c.args.planes.now)) c.loop-number.number) c.loop-number.invariant
    (wrote_whole g.K.Sink.written g.K.Sink.room g.K.Sink.faults c.loop-number.out c.write_row.new.out _ _ c.in_ok-write_row.ensures)

pub returns-in_err-write_row : goal.returns-in_err-write_row
returns-in_err-write_row g c =
    let p = err_from_is_err_and c.from_residual.result c.from_residual.ensures.1 in
    writes_fault g.K.Sink.written g.K.Sink.room g.K.Sink.faults c.args.out.now c.loop-number.out c.write_row.new.out c.write_row.result c.from_residual.result _ p.0
    (row_lines c.args.p.now.circuit c.args.p.now.cycles (has c.args.p.now c.args.planes.now) (signals_below c.loop-number.number))
    (row_line c.args.p.now.circuit c.args.p.now.cycles (has c.args.p.now c.args.planes.now) (record { 0 = c.loop-number.number })) _ _
    c.in_err-write_row.was p.1
    (signals_at (row_line c.args.p.now.circuit c.args.p.now.cycles (has c.args.p.now c.args.planes.now)) c.loop-number.number (signals_in c.args.p.now)
    (subst (λ n. c.loop-number.number < n) (c.signals-number-end.ensures.count ∙ ap (λ k. length k.drivers) c.net.ensures.net) c.loop-number-test.true))
    c.loop-number.invariant c.write_row.ensures
