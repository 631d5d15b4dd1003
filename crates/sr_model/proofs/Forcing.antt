-- What an instance forces, by the known literals of its cells.
use Rattle.std.proofs.Common.{List, [], ◌∷◌}
use Rattle.std.specs.List.{Contains, All}
use Rattle.std.proofs.lemmas.List.Elements.{All-head, All-tail, All-nil, All-cons}
use Rattle.sr_model.specs.declared.cells.Cell.{Cell}
use Rattle.sr_model.specs.declared.cells.Lit.{Lit}
use Rattle.sr_model.specs.Netlist.{Instance, cells_of}
use Rattle.sr_model.specs.Closure.{LitSet, Forces, IsWithin}

-- a part on these cells, in a set that has as much on them
pub part_of_other : (cells : List Cell) (known same : LitSet) → ((l : Lit) → Contains cells l.cell → known l → same l)
    → (part : List Lit) → All known part → All (λ l. Contains cells l.cell) part → All same part
part_of_other cells known same more [] in_known on_cells = All-nil same
part_of_other cells known same more (l ∷ part) in_known on_cells =
    let here : same l = more l (All-head (λ x. Contains cells x.cell) l part on_cells) (All-head known l part in_known) in
    All-cons same l part here
    (part_of_other cells known same more part (All-tail known l part in_known) (All-tail (λ x. Contains cells x.cell) l part on_cells))

pub forced_by_cells : (i : Instance) (known same : LitSet) → ((l : Lit) → Contains (cells_of i) l.cell → known l → same l) → IsWithin (Forces i known) (Forces i same)
forced_by_cells i known same more l f = record {
  on_cells = f.on_cells;
  part = f.part;
  part_known = part_of_other (cells_of i) known same more f.part f.part_known f.part_on_cells;
  part_on_cells = f.part_on_cells;
  row = f.row;
  is_row = f.is_row;
  row_agrees = f.row_agrees;
  forced = f.forced;
}
