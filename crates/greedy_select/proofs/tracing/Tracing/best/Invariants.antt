use Rattle.cycle_sim.specs.Simulation.{bits_of}
use Rattle.greedy_select.proofs.Choosing.{IsChosen}
use Rattle.greedy_select.proofs.tracing.Tracing.best.Given as goal

abbrev pub invariant-loop-next : goal.invariant-loop-next
invariant-loop-next g l = IsChosen l.self.p (bits_of l.self.e.now) l.fn.planes l.sigs l.next l.place l.best l.planes
