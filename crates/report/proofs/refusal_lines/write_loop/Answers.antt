use Rattle.std.proofs.Common.{◌∙◌, ap, subst}
use Rattle.std.specs.Fmt.{decimal}
use Rattle.report.specs.Writes.{Writes}
use Rattle.report.proofs.LinePieces.{loop_joined}
use Rattle.report.proofs.refusal_lines.write_loop.Goals as goal

pub returns : goal.returns
returns g c =
    subst (Writes g.K.Sink.written g.K.Sink.room g.K.Sink.faults c.args.out.now c.write_pieces.new.out c.write_pieces.result)
    (loop_joined c.args.length c.args.name.now c.digits-number.result.now (c.digits-number.ensures ∙ ap decimal c.from.ensures))
    c.write_pieces.ensures
