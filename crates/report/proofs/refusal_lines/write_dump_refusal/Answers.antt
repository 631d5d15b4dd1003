use Rattle.std.proofs.Common.{sym, ap, subst}
use Rattle.report.specs.InputRefusals.{dump_line}
use Rattle.report.specs.Writes.{Writes}
use Rattle.report.proofs.refusal_lines.write_dump_refusal.Goals as goal

pub returns-in-TooManyCells : goal.returns-in-TooManyCells
returns-in-TooManyCells g c = subst (Writes g.K.Sink.written g.K.Sink.room g.K.Sink.faults c.args.out.now c.write_too_many_cells.new.out c.write_too_many_cells.result) (ap dump_line (sym c.in-TooManyCells.is)) c.write_too_many_cells.ensures

pub returns-in-NoMemory : goal.returns-in-NoMemory
returns-in-NoMemory g c = subst (Writes g.K.Sink.written g.K.Sink.room g.K.Sink.faults c.args.out.now c.write_text.new.out c.write_text.result) (ap dump_line (sym c.in-NoMemory.is)) c.write_text.ensures
