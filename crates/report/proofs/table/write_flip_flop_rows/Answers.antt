use Rattle.std.proofs.Common.{◌≡◌, ◌<◌, List, length, get_or, take, ap, subst, ◌∙◌}
use Rattle.std.proofs.lemmas.Result.{err_from_is_err_and}
use Rattle.sr_model.specs.declared.cells.Sig.{Sig}
use Rattle.known_planes.specs.Planes.{has}
use Rattle.netlist.specs.Wiring.{flip_flops}
use Rattle.report.specs.Rows.{row_line, row_lines}
use Rattle.report.specs.Writes.{Writes}
use Rattle.report.proofs.InTurn.{Wrote, writes_fault, wrote_both, wrote_none, wrote_whole}
use Rattle.report.proofs.Joined.{texts_at, texts_more}
use Rattle.report.proofs.Tables.{no_sig, sig_within}
use Rattle.report.proofs.table.write_flip_flop_rows.Goals as goal

pub write_row-requires-clause-signal : goal.write_row-requires-clause-signal
write_row-requires-clause-signal g c =
    sig_within c.args.p.now.circuit.drivers c.flip_flops-sig-items.result.now c.loop-sig.sig-index no_sig (c.flip_flops-sig-items.ensures ∙ ap (λ k. flip_flops k.drivers) c.net.ensures.net) c.loop-sig-test.true

pub loop-sig-init : goal.loop-sig-init
loop-sig-init g c = wrote_none g.K.Sink.written g.K.Sink.room g.K.Sink.faults c.args.out.now

pub loop-sig-preserved : goal.loop-sig-preserved
loop-sig-preserved g c =
    let same : c.flip_flops-sig-items.result.now ≡ flip_flops c.args.p.now.circuit.drivers = c.flip_flops-sig-items.ensures ∙ ap (λ k. flip_flops k.drivers) c.net.ensures.net in
    wrote_both g.K.Sink.written g.K.Sink.room g.K.Sink.faults c.args.out.now c.loop-sig.out c.write_row.new.out
    (row_lines c.args.p.now.circuit c.args.p.now.cycles (has c.args.p.now c.args.planes.now) (take c.loop-sig.sig-index (flip_flops c.args.p.now.circuit.drivers)))
    (row_line c.args.p.now.circuit c.args.p.now.cycles (has c.args.p.now c.args.planes.now) (get_or (flip_flops c.args.p.now.circuit.drivers) c.loop-sig.sig-index no_sig)) _
    (texts_more (row_line c.args.p.now.circuit c.args.p.now.cycles (has c.args.p.now c.args.planes.now)) (flip_flops c.args.p.now.circuit.drivers) c.loop-sig.sig-index no_sig
    (subst (λ (sigs : List Sig). c.loop-sig.sig-index < length sigs) same c.loop-sig-test.true)) c.loop-sig.invariant
    (subst (λ (sigs : List Sig). Wrote g.K.Sink.written g.K.Sink.room g.K.Sink.faults c.loop-sig.out c.write_row.new.out
    (row_line c.args.p.now.circuit c.args.p.now.cycles (has c.args.p.now c.args.planes.now) (get_or sigs c.loop-sig.sig-index no_sig))) same
    (wrote_whole g.K.Sink.written g.K.Sink.room g.K.Sink.faults c.loop-sig.out c.write_row.new.out _
    (row_line c.args.p.now.circuit c.args.p.now.cycles (has c.args.p.now c.args.planes.now) (get_or c.flip_flops-sig-items.result.now c.loop-sig.sig-index no_sig)) c.in_ok-write_row.ensures))

pub returns-in_err-write_row : goal.returns-in_err-write_row
returns-in_err-write_row g c =
    let p = err_from_is_err_and c.from_residual.result c.from_residual.ensures.1 in
    let same : c.flip_flops-sig-items.result.now ≡ flip_flops c.args.p.now.circuit.drivers = c.flip_flops-sig-items.ensures ∙ ap (λ k. flip_flops k.drivers) c.net.ensures.net in
    writes_fault g.K.Sink.written g.K.Sink.room g.K.Sink.faults c.args.out.now c.loop-sig.out c.write_row.new.out c.write_row.result c.from_residual.result _ p.0
    (row_lines c.args.p.now.circuit c.args.p.now.cycles (has c.args.p.now c.args.planes.now) (take c.loop-sig.sig-index (flip_flops c.args.p.now.circuit.drivers)))
    (row_line c.args.p.now.circuit c.args.p.now.cycles (has c.args.p.now c.args.planes.now) (get_or (flip_flops c.args.p.now.circuit.drivers) c.loop-sig.sig-index no_sig)) _ _
    c.in_err-write_row.was p.1
    (texts_at (row_line c.args.p.now.circuit c.args.p.now.cycles (has c.args.p.now c.args.planes.now)) (flip_flops c.args.p.now.circuit.drivers) c.loop-sig.sig-index no_sig
    (subst (λ (sigs : List Sig). c.loop-sig.sig-index < length sigs) same c.loop-sig-test.true)) c.loop-sig.invariant
    (subst (λ (sigs : List Sig). Writes g.K.Sink.written g.K.Sink.room g.K.Sink.faults c.loop-sig.out c.write_row.new.out c.write_row.result
    (row_line c.args.p.now.circuit c.args.p.now.cycles (has c.args.p.now c.args.planes.now) (get_or sigs c.loop-sig.sig-index no_sig))) same c.write_row.ensures)
