use Rattle.std.proofs.Common.{◌∙◌, [], sym, ap, subst}
use Rattle.std.specs.Fmt.{decimal}
use Rattle.std.proofs.lemmas.Option.{get_or_from_slice_get}
use Rattle.ratio.specs.Ratio.{in_thousandths}
use Rattle.report.specs.Table.{ratio_text}
use Rattle.report.specs.Writes.{Writes}
use Rattle.report.proofs.LinePieces.{pick_joined}
use Rattle.report.proofs.Tables.{front_of}
use Rattle.report.proofs.picks.write_pick.Goals as goal

pub returns : goal.returns
returns g c =
    subst (Writes g.K.Sink.written g.K.Sink.room g.K.Sink.faults c.args.out.now c.write_pieces.new.out c.write_pieces.result)
    (pick_joined c.args.n.now.names c.args.pick.now c.name.result.now c.digits-known.result.now c.digits-traced.result.now _
    (sym (get_or_from_slice_get c.args.n.now.names c.args.pick.now.sig.0 c.name.result.now [] c.name.ensures.name))
    (c.digits-known.ensures ∙ ap decimal c.known.ensures.value) (c.digits-traced.ensures ∙ ap decimal c.traced.ensures.value)
    (front_of (ratio_text (in_thousandths c.args.pick.now.ratio.known c.args.pick.now.ratio.traced)) _ _ _ c.put_ratio-ratio_len.ensures.len c.put_ratio-ratio_len.ensures.text))
    c.write_pieces.ensures
