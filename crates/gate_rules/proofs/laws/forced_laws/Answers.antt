use Rattle.gate_rules.proofs.TaskForcing.{forced_on_cells, forced_by_cells, forced_at_place}
use Rattle.gate_rules.proofs.TaskViews.{forced_by_view}
use Rattle.gate_rules.proofs.laws.forced_laws.Goals as goal

pub returns : goal.returns
returns c = record { cells = forced_on_cells; by_cells = forced_by_cells; view = forced_by_view; place = forced_at_place }
