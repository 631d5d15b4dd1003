-- The laws, as proofs above cite them.
pub use Rattle.plain_close.proofs.LogExists.{log_exists}
pub use Rattle.plain_close.proofs.OneLog.{clash_is_first, log_is_whole, one_log}
