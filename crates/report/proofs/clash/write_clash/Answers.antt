use Rattle.std.proofs.Common.{◌∙◌, [], sym, ap, subst}
use Rattle.std.specs.Fmt.{decimal}
use Rattle.std.proofs.lemmas.Option.{get_or_from_slice_get}
use Rattle.report.specs.Writes.{Writes}
use Rattle.report.proofs.LinePieces.{clash_joined}
use Rattle.report.proofs.clash.write_clash.Goals as goal

pub returns : goal.returns
returns g c =
    subst (Writes g.K.Sink.written g.K.Sink.room g.K.Sink.faults c.args.out.now c.write_pieces.new.out c.write_pieces.result)
    (clash_joined c.args.n.now c.args.cell c.name.result.now c.digits-number.result.now (sym (get_or_from_slice_get c.args.n.now.names c.args.cell.sig.0 c.name.result.now [] c.name.ensures.name)) (c.digits-number.ensures ∙ ap decimal c.from.ensures))
    c.write_pieces.ensures
