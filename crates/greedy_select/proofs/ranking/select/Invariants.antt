use Rattle.std.proofs.Common.{◌≡◌, length}
use Rattle.cycle_sim.specs.Simulation.{bits_of}
use Rattle.greedy_select.specs.Ranking.{IsRanking}
use Rattle.greedy_select.proofs.ranking.select.Given as goal

abbrev pub invariant-loop : goal.invariant-loop
invariant-loop g l = IsRanking l.tracing.p (bits_of l.tracing.e.now) l.ranking × (length l.ranking.picks.items ≡ l.counter)
