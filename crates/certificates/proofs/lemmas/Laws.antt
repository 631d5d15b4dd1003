-- A text is valid in one way or refused in one way, what a valid one says follows, and the printed text of a log is valid.
pub use Rattle.certificates.proofs.Following.{clash_known, excludes, facts_known, facts_sound}
pub use Rattle.certificates.proofs.ValidLog.{logs_are_in, printed_is_valid}
pub use Rattle.certificates.proofs.Verdicts.{not_both, one_refusal, one_validity}
pub use Rattle.certificates.proofs.ValidOrRefused.{valid_or_refused}
