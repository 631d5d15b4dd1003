-- The signals of a driver, and that all of them are there.
pub use Rattle.netlist.proofs.FewSignals.{few_signals, signals-pins}
pub use Rattle.netlist.proofs.Marks.{member_place, pin_below, signal_within, signals_member, signals_within}
pub use Rattle.netlist.proofs.OwnPin.{own_pin}
