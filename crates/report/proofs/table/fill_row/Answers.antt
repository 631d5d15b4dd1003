use Rattle.std.proofs.Common.{◌≡◌, ◌++◌, ◌∷◌, [], Some, ap, subst, ◌∙◌}
use Rattle.std.specs.List.{slice_get}
use Rattle.known_planes.specs.Planes.{has}
use Rattle.netlist.specs.Circuit.{Circuit}
use Rattle.report.specs.Rows.{cells_text}
use Rattle.report.proofs.Cells.{row_made}
use Rattle.report.proofs.table.fill_row.Goals as goal

pub returns-clause-text : goal.returns-clause-text
returns-clause-text c =
    c.put_text.ensures.text
    ∙ ap (λ xs. xs ++ 10 ∷ []) (c.fill_cells-filled.ensures.text
    ∙ ap (λ xs. xs ++ cells_text (has c.args.p.now c.args.planes.now) c.args.sig c.args.p.now.cycles) (c.put_text-spaced.ensures.text ∙ ap (λ xs. xs ++ 32 ∷ []) c.put_text-named.ensures.text))
    ∙ row_made c.args.p.now.circuit c.args.p.now.cycles (has c.args.p.now c.args.planes.now) c.args.sig c.name.result.now
    (subst (λ (n : Circuit). slice_get n.names c.args.sig.0 ≡ Some c.name.result.now) c.net.ensures.net c.name.ensures.name)
