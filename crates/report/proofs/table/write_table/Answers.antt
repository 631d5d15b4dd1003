use Rattle.std.proofs.Common.{[], ◌++◌, sym, ap, subst, ◌∙◌}
use Rattle.std.proofs.lemmas.Result.{err_from_is_err_and}
use Rattle.known_planes.specs.Planes.{has}
use Rattle.dump_reader.specs.Head.{head_text}
use Rattle.report.specs.Rows.{row_lines}
use Rattle.report.specs.Table.{ratio_line, shown}
use Rattle.report.specs.Writes.{Writes}
use Rattle.report.proofs.InTurn.{writes_both, writes_fault, wrote_none, wrote_whole}
use Rattle.report.proofs.Tables.{table_in_turn}
use Rattle.report.proofs.table.write_table.Goals as goal

pub returns-in_err-write_head : goal.returns-in_err-write_head
returns-in_err-write_head g c =
    let p = err_from_is_err_and c.from_residual.result c.from_residual.ensures.1 in
    writes_fault g.K.Sink.written g.K.Sink.room g.K.Sink.faults c.args.out.now c.args.out.now c.write_head.new.out c.write_head.result c.from_residual.result _ p.0
    [] (head_text c.args.p.now.cycles) _ _ c.in_err-write_head.was p.1
    (table_in_turn c.args.p.now.circuit c.args.p.now.cycles (has c.args.p.now c.args.planes.now) c.args.traced c.args.all)
    (wrote_none g.K.Sink.written g.K.Sink.room g.K.Sink.faults c.args.out.now) c.write_head.ensures

pub returns-in_err-write_rows : goal.returns-in_err-write_rows
returns-in_err-write_rows g c =
    let p = err_from_is_err_and c.from_residual-in_err-write_rows.result c.from_residual-in_err-write_rows.ensures.1 in
    writes_fault g.K.Sink.written g.K.Sink.room g.K.Sink.faults c.args.out.now c.write_head.new.out c.write_rows.new.out c.write_rows.result c.from_residual-in_err-write_rows.result _ p.0
    (head_text c.args.p.now.cycles) (row_lines c.args.p.now.circuit c.args.p.now.cycles (has c.args.p.now c.args.planes.now) (shown c.args.p.now.circuit c.args.all)) _ _
    c.in_err-write_rows.was p.1
    (table_in_turn c.args.p.now.circuit c.args.p.now.cycles (has c.args.p.now c.args.planes.now) c.args.traced c.args.all)
    (wrote_whole g.K.Sink.written g.K.Sink.room g.K.Sink.faults c.args.out.now c.write_head.new.out _ _ c.in_ok-write_head.ensures) c.write_rows.ensures

pub returns : goal.returns
returns g c =
    subst (Writes g.K.Sink.written g.K.Sink.room g.K.Sink.faults c.args.out.now c.write_ratio_line.new.out c.write_ratio_line.result)
    (ap (λ n. head_text c.args.p.now.cycles ++ (row_lines c.args.p.now.circuit c.args.p.now.cycles (has c.args.p.now c.args.planes.now) (shown c.args.p.now.circuit c.args.all) ++ ratio_line c.args.traced n))
    c.count_known_flip_flops.ensures.count
    ∙ sym (table_in_turn c.args.p.now.circuit c.args.p.now.cycles (has c.args.p.now c.args.planes.now) c.args.traced c.args.all))
    (writes_both g.K.Sink.written g.K.Sink.room g.K.Sink.faults c.args.out.now c.write_head.new.out c.write_ratio_line.new.out c.write_ratio_line.result _ _
    (wrote_whole g.K.Sink.written g.K.Sink.room g.K.Sink.faults c.args.out.now c.write_head.new.out _ _ c.in_ok-write_head.ensures)
    (writes_both g.K.Sink.written g.K.Sink.room g.K.Sink.faults c.write_head.new.out c.write_rows.new.out c.write_ratio_line.new.out c.write_ratio_line.result _ _
    (wrote_whole g.K.Sink.written g.K.Sink.room g.K.Sink.faults c.write_head.new.out c.write_rows.new.out _ _ c.in_ok-write_rows.ensures) c.write_ratio_line.ensures))
