use Rattle.greedy_select.proofs.OneRanking.{picks_agree}
use Rattle.greedy_select.proofs.PickedSignals.{picks_are_flip_flops, picks_are_signals}
use Rattle.greedy_select.proofs.RankingExists.{picks_exist}
use Rattle.greedy_select.proofs.laws.pick_laws.Goals as goal

pub returns-clause-exist : goal.returns-clause-exist
returns-clause-exist c = picks_exist

pub returns-clause-one : goal.returns-clause-one
returns-clause-one c = picks_agree

pub returns-clause-flip_flops : goal.returns-clause-flip_flops
returns-clause-flip_flops c = picks_are_flip_flops

pub returns-clause-signals : goal.returns-clause-signals
returns-clause-signals c = picks_are_signals
