-- Cells are told apart.
pub use Rattle.sr_model.proofs.Rows.{cell_cases, cell_eq-itself}
pub use Rattle.sr_model.specs.Netlist.{cell_eq}
