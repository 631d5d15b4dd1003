use Rattle.std.proofs.Common.{count_by}
use Rattle.netlist.proofs.Walks.{Walking, is_open}
use Rattle.netlist.proofs.loops.find_loop.Given as goal

abbrev pub invariant-loop-step : goal.invariant-loop-step
invariant-loop-step l = Walking l.wiring l.fed l.met.items l.sig l.steps

abbrev pub decreases-loop-step : goal.decreases-loop-step
decreases-loop-step l = count_by is_open l.met.items
