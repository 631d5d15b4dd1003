use Rattle.cycle_sim.specs.Simulation.{bits_of}
use Rattle.greedy_select.proofs.Rows.{HasFirst}
use Rattle.greedy_select.proofs.tracing.Tracing.row.Given as goal

abbrev pub invariant-loop-chunk : goal.invariant-loop-chunk
invariant-loop-chunk l = HasFirst (bits_of l.self.e.now) l.self.p.cycles l.sig l.row.items l.chunk
