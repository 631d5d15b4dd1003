use Rattle.std.proofs.Common.{subst}
use Rattle.report.specs.Writes.{Writes}
use Rattle.report.proofs.LinePieces.{cells_joined}
use Rattle.report.proofs.refusal_lines.write_too_many_cells.Goals as goal

pub returns : goal.returns
returns g c =
    subst (Writes g.K.Sink.written g.K.Sink.room g.K.Sink.faults c.args.out.now c.write_pieces.new.out c.write_pieces.result)
    (cells_joined c.args.line c.args.product c.digits-line_digits.result.now c.digits-number.result.now c.digits-line_digits.ensures c.digits-number.ensures)
    c.write_pieces.ensures
