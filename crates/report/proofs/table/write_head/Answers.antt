use Rattle.std.proofs.Common.{◌++◌, ◌∷◌, [], ap, subst, ◌∙◌}
use Rattle.dump_reader.specs.Head.{head_start, head_text}
use Rattle.report.specs.Writes.{Writes}
use Rattle.report.proofs.table.write_head.Goals as goal

pub returns : goal.returns
returns g c =
    subst (Writes g.K.Sink.written g.K.Sink.room g.K.Sink.faults c.args.out.now c.write_pieces.new.out c.write_pieces.result)
    (ap (λ digits. head_start ++ (digits ++ 10 ∷ [])) c.digits-cycles.ensures ∙ ap head_text (c.from.ensures ∙ c.cycles.ensures))
    c.write_pieces.ensures
