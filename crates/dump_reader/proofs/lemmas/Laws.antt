-- A text is one dump or has one refusal, and what is printed is read back.
pub use Rattle.dump_reader.proofs.ReadBack.{read_back}
pub use Rattle.dump_reader.proofs.SameRows.{one_reading, spells_recording}
pub use Rattle.dump_reader.proofs.ReadOrRefused.{read_or_refused}
pub use Rattle.dump_reader.proofs.RefusedOnce.{one_refusal, not_both}
