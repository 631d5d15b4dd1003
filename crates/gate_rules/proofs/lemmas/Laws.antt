-- What a task forces.
pub use Rattle.gate_rules.proofs.TaskViews.{forced_by_view}
pub use Rattle.gate_rules.proofs.NewLiterals.{forced-in_time}
pub use Rattle.gate_rules.proofs.TaskForcing.{closed_where_done, done_once, forced_by_cells, forced_on_cells}
