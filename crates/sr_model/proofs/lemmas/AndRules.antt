-- What a gate forces that only asks whether all its pins have one bit.
pub use Rattle.sr_model.proofs.AndExact.{pin_other-exact, pin_p-exact, target_other-exact, target_t-exact}
pub use Rattle.sr_model.proofs.AndLike.{bit_cases}
