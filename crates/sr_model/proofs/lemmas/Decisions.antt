-- What is decided of known literals, place by place and level by level.
pub use Rattle.sr_model.proofs.Decided.{Decided, decided_as, decided_below, decided_both, test_of, test_of-holds, test_of-true}
pub use Rattle.sr_model.proofs.DecidedForcing.{decided_by}
pub use Rattle.sr_model.proofs.DecidedLevels.{decided_level, last_level}
pub use Rattle.sr_model.proofs.FirstClash.{dump_level_clash}
pub use Rattle.sr_model.proofs.LeastPlaces.{IsAdded, IsLeastPlace, decided_added, level_place, within_bounds}
