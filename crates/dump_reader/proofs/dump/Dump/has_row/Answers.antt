use Rattle.std.proofs.Common.{false, ap, ◌∙◌, get_or, Bool, List, Option, arith}
use Rattle.std.specs.Prelude.{unwrap_or}
use Rattle.dump_reader.proofs.Rows.{sees_mark}
use Rattle.dump_reader.proofs.dump.Dump.has_row.Goals as goal

pub returns : goal.returns
returns c =
    sees_mark c.self.inside.cycles c.self.inside.sigs.items c.self.inside.cells.items c.self.inside.marks.items c.args.self.now c.args.sig c.unwrap_or.result c.self.view_is c.self.invariant
    (c.unwrap_or.ensures ∙ ap (λ (o : Option Bool). unwrap_or o false) c.copied-mark.ensures ∙ c.get.ensures.lookup.4 (omega arith) false ∙ ap (λ (marks : List Bool). get_or marks c.args.sig.0 false) c.deref.ensures.value)
