-- A netlist of statements, or one refusal; ranks.
pub use Rattle.netlist.proofs.Circuits.{statements_give_circuits}
pub use Rattle.netlist.proofs.NetlistOrRefused.{netlist_or_refused}
pub use Rattle.netlist.proofs.OneRefusal.{netlists_are_not_refused, refusal_is_unique}
pub use Rattle.netlist.proofs.Ranking.{ranks_exist}
