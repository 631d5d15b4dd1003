-- What a gate forces whose target has the parity of its pins.
pub use Rattle.sr_model.proofs.OddCells.{AreOdd, pin_odd, target_odd}
pub use Rattle.sr_model.proofs.OddCounts.{CountsForce, count_without, is_open, without, xor_counts}
pub use Rattle.sr_model.proofs.OddPins.{AllEven, IsApartFrom, apart_from_pins, cells_once, dff_apart, in_cycle, odd_among, odd_cell-is}
pub use Rattle.sr_model.proofs.XorChoice.{both_known, known_bit, no_others, xor_lone-exact}
pub use Rattle.sr_model.proofs.XorExact.{xor_even-exact, xor_odd-exact}
pub use Rattle.sr_model.proofs.XorLike.{is_odd-member}
pub use Rattle.sr_model.specs.RuleLaws.{XorForces}
