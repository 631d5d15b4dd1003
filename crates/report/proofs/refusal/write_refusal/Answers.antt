use Rattle.std.proofs.Common.{map, sym, ap, subst}
use Rattle.std.specs.String.{string_bytes}
use Rattle.report.specs.Refusals.{refusal_line}
use Rattle.report.specs.Writes.{Writes}
use Rattle.report.proofs.refusal.write_refusal.Goals as goal

pub returns-in-TraceUnknown : goal.returns-in-TraceUnknown
returns-in-TraceUnknown g c =
    subst (Writes g.K.Sink.written g.K.Sink.room g.K.Sink.faults c.args.out.now c.write_name.new.out c.write_name.result)
    (ap (refusal_line (map string_bytes c.args.words.now)) (sym c.in-TraceUnknown.is)) c.write_name.ensures

pub returns-in-TraceTwice : goal.returns-in-TraceTwice
returns-in-TraceTwice g c =
    subst (Writes g.K.Sink.written g.K.Sink.room g.K.Sink.faults c.args.out.now c.write_name-in-TraceTwice.new.out c.write_name-in-TraceTwice.result)
    (ap (refusal_line (map string_bytes c.args.words.now)) (sym c.in-TraceTwice.is)) c.write_name-in-TraceTwice.ensures

pub returns-in-NoMemory : goal.returns-in-NoMemory
returns-in-NoMemory g c =
    subst (Writes g.K.Sink.written g.K.Sink.room g.K.Sink.faults c.args.out.now c.write_text.new.out c.write_text.result)
    (ap (refusal_line (map string_bytes c.args.words.now)) (sym c.in-NoMemory.is)) c.write_text.ensures
