-- A table is a dump, and says only what holds.
pub use Rattle.report.proofs.CommentLine.{shown_once, shown_within, table_is_dump}
pub use Rattle.report.proofs.KnownRows.{table_again, table_is_sound}
