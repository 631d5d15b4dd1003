use Rattle.std.proofs.Common.{◌++◌, ◌∙◌, ap, subst}
use Rattle.std.specs.Fmt.{decimal}
use Rattle.std.specs.Prelude.{codes}
use Rattle.report.specs.Writes.{Writes}
use Rattle.report.proofs.word_lines.write_width_over.Goals as goal

pub returns : goal.returns
returns g c =
    subst (Writes g.K.Sink.written g.K.Sink.room g.K.Sink.faults c.args.out.now c.write_pieces.new.out c.write_pieces.result)
    (ap (λ digits. codes "srestore: words: 25 width over " ++ digits ++ codes "\n") (c.digits-count.ensures ∙ ap decimal c.from.ensures)) c.write_pieces.ensures
