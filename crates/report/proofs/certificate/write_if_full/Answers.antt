use Rattle.std.proofs.Common.{take}
use Rattle.std.proofs.lemmas.Result.{err_from_is_err_and}
use Rattle.report.proofs.Buffered.{puts_unwritten}
use Rattle.report.proofs.certificate.write_if_full.Goals as goal

pub returns-in_err-write_text-clause-puts : goal.returns-in_err-write_text-clause-puts
returns-in_err-write_text-clause-puts g c =
    let p = err_from_is_err_and c.from_residual.result c.from_residual.ensures.1 in
    puts_unwritten g.K.Sink.written g.K.Sink.room g.K.Sink.faults c.args.out.now c.write_text.new.out c.write_text.result c.from_residual.result c.in_err-write_text.field-0.0 p.0 c.args.bytes.now (take c.args.end c.args.bytes.now)
    c.in_err-write_text.was p.1 c.write_text.ensures
