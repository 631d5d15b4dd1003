use Rattle.std.proofs.Common.{◌≡◌}
use Rattle.std.specs.List.{flat_map}
use Rattle.netlist.specs.Wiring.{signals_below}
use Rattle.unroll.specs.Tasks.{constant_tasks_at}
use Rattle.unroll.proofs.problem.Problem.constant_tasks.Given as goal

abbrev pub invariant-loop-number : goal.invariant-loop-number
invariant-loop-number l = l.found.items ≡ flat_map (constant_tasks_at l.self) (signals_below l.number)
