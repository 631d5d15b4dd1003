use Rattle.unroll.proofs.SharedCells.{share_no_cell}
use Rattle.unroll.proofs.TaskCells.{role, role-back}
use Rattle.unroll.proofs.laws.cell_laws.Goals as goal

pub returns : goal.returns
returns c = record {
  roles = λ u p cell. (λ at. role u p at.instance cell at.stands at.has_cell, role-back u p cell);
  apart = share_no_cell;
}
