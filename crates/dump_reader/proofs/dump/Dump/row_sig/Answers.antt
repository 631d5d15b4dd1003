use Rattle.std.proofs.Common.{sym, ap, ◌∙◌, Option, Some, arith}
use Rattle.std.specs.Prelude.{option_map}
use Rattle.sr_model.specs.Dump.{Row}
use Rattle.sr_model.specs.declared.cells.Sig.{Sig}
use Rattle.dump_reader.proofs.Rows.{sees_within, sees_row}
use Rattle.dump_reader.proofs.dump.Dump.row_sig.Goals as goal

pub index-requires : goal.index-requires
index-requires c = omega (arith, sees_within c.self.inside.cycles c.self.inside.sigs.items c.self.inside.cells.items c.args.self.now c.args.i c.self.view_is c.requires, c.self.inside.sigs.ok.0)

pub returns : goal.returns
returns c =
    ap (λ (o : Option Row). option_map (λ (row : Row). row.sig) o)
    (sees_row c.self.inside.cycles c.self.inside.sigs.items c.self.inside.cells.items c.args.self.now c.args.i c.index.result.now c.self.view_is c.requires)
    ∙ ap (λ (s : Sig). Some s) (sym c.index.ensures)
