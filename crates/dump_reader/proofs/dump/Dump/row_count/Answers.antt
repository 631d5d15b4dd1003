use Rattle.std.proofs.Common.{length, sym, ap, ◌∙◌}
use Rattle.dump_reader.specs.Recording.{Recording}
use Rattle.dump_reader.proofs.Rows.{length-rows_of}
use Rattle.dump_reader.proofs.dump.Dump.row_count.Goals as goal

pub returns : goal.returns
returns c = c.len.ensures ∙ c.self.inside.sigs.ok.0 ∙ sym (length-rows_of c.self.inside.cycles c.self.inside.sigs.items c.self.inside.cells.items) ∙ ap (λ (r : Recording). length r.rows) c.self.view_is
