use Rattle.std.proofs.Common.{◌≡◌}
use Rattle.netlist.specs.Wiring.{signals_below}
use Rattle.cycle_sim.proofs.execution.all_signals.Given as goal

abbrev pub invariant-loop-number : goal.invariant-loop-number
invariant-loop-number l = l.signals.items ≡ signals_below l.number
