-- The laws, as proofs above cite them.
pub use Rattle.greedy_select.proofs.OneRanking.{picks_agree}
pub use Rattle.greedy_select.proofs.PickedSignals.{picks_are_flip_flops, picks_are_signals}
pub use Rattle.greedy_select.proofs.RankingExists.{picks_exist}
