-- A text is one list of statements or has one refusal.
pub use Rattle.bench_reader.proofs.Statements.{spells_statements}
pub use Rattle.bench_reader.proofs.ReadOrRefused.{read_or_refused}
pub use Rattle.bench_reader.proofs.BenchLaws.{one_reading, not_both, one_refusal}
