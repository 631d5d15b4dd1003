use Rattle.std.proofs.Common.{ap, subst, ◌∙◌}
use Rattle.std.specs.Fmt.{decimal}
use Rattle.ratio.specs.Ratio.{in_thousandths}
use Rattle.report.specs.Table.{ratio_text}
use Rattle.report.specs.Writes.{Writes}
use Rattle.report.proofs.LinePieces.{load_joined}
use Rattle.report.proofs.Tables.{front_of}
use Rattle.report.proofs.load.write_load.Goals as goal

pub returns : goal.returns
returns g c =
    subst (Writes g.K.Sink.written g.K.Sink.room g.K.Sink.faults c.args.out.now c.write_pieces.new.out c.write_pieces.result)
    (load_joined c.args.number c.args.signals c.args.flip_flops c.args.ratio.now c.digits-number_digits.result.now c.digits-signals_digits.result.now c.digits-flip_flops_digits.result.now c.digits-traced_digits.result.now c.digits-known_digits.result.now _
    c.digits-number_digits.ensures (c.digits-signals_digits.ensures ∙ ap decimal c.from.ensures) (c.digits-flip_flops_digits.ensures ∙ ap decimal c.from-2.ensures)
    (c.digits-traced_digits.ensures ∙ ap decimal c.traced.ensures.value) (c.digits-known_digits.ensures ∙ ap decimal c.known.ensures.value)
    (front_of (ratio_text (in_thousandths c.args.ratio.now.known c.args.ratio.now.traced)) _ _ _ c.put_ratio-ratio_len.ensures.len c.put_ratio-ratio_len.ensures.text))
    c.write_pieces.ensures
