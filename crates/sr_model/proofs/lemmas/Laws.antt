-- The laws of the closure, and that it is decided.
pub use Rattle.sr_model.proofs.ClosureLaws.{ForcesSomewhere-more, closed, closed_between, forced_between, has_base, least, level-later, level_in_Closure, monotone, no_execution_has_both, same_closure, sound, stable_level}
pub use Rattle.sr_model.proofs.DecidedLevels.{closure_test}
pub use Rattle.sr_model.proofs.FirstClash.{dump_clash_or_none}
pub use Rattle.sr_model.proofs.KindLaws.{flip_flop-dff, has_its_family, pin_count_decided, some_pins}
