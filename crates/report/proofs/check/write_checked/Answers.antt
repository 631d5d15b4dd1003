use Rattle.std.proofs.Common.{[], sym, subst}
use Rattle.std.proofs.lemmas.Result.{err_from_is_err_and}
use Rattle.report.specs.Check.{accepted_line, checked_text}
use Rattle.report.specs.Clash.{clash_line}
use Rattle.report.specs.Writes.{Writes}
use Rattle.report.proofs.InTurn.{writes_both, writes_fault, wrote_none, wrote_whole}
use Rattle.report.proofs.LinePieces.{checked_parts}
use Rattle.report.proofs.check.write_checked.Goals as goal

pub returns-in_err-write_accepted : goal.returns-in_err-write_accepted
returns-in_err-write_accepted g c =
    let p = err_from_is_err_and c.from_residual.result c.from_residual.ensures.1 in
    let parts = checked_parts c.args.n.now c.args.facts c.args.clash in
    writes_fault g.K.Sink.written g.K.Sink.room g.K.Sink.faults c.args.out.now c.args.out.now c.write_accepted.new.out c.write_accepted.result c.from_residual.result c.in_err-write_accepted.field-0.0 p.0 []
    (accepted_line c.args.facts) parts.0 (checked_text c.args.n.now c.args.facts c.args.clash) c.in_err-write_accepted.was p.1 parts.1 (wrote_none g.K.Sink.written g.K.Sink.room g.K.Sink.faults c.args.out.now) c.write_accepted.ensures

pub returns-in-Some : goal.returns-in-Some
returns-in-Some g c =
    subst (λ clash. Writes g.K.Sink.written g.K.Sink.room g.K.Sink.faults c.args.out.now c.write_clash.new.out c.write_clash.result (checked_text c.args.n.now c.args.facts clash)) (sym c.in-Some.is)
    (writes_both g.K.Sink.written g.K.Sink.room g.K.Sink.faults c.args.out.now c.write_accepted.new.out c.write_clash.new.out c.write_clash.result (accepted_line c.args.facts) (clash_line c.args.n.now c.in-Some.cell)
    (wrote_whole g.K.Sink.written g.K.Sink.room g.K.Sink.faults c.args.out.now c.write_accepted.new.out _ (accepted_line c.args.facts) c.in_ok-write_accepted.ensures) c.write_clash.ensures)
