-- What an instance forces where nothing is known.
pub use Rattle.sr_model.proofs.FromNothing.{HasParity, even_forces, nothing_forced}
