use Rattle.std.proofs.Common.{◌≡◌, take}
use Rattle.sr_model.specs.Netlist.{Valuation}
use Rattle.cycle_sim.specs.BitTable.{bit_in}
use Rattle.cycle_sim.specs.Simulation.{IsSimulated, traced_rows}
use Rattle.cycle_sim.proofs.traces.simulate_trace.Given as goal

abbrev pub invariant-loop-j : goal.invariant-loop-j
invariant-loop-j l = (l.dump.cycles ≡ l.s.count) × ((v : Valuation) → IsSimulated l.n l.s.count (bit_in l.s) v → l.dump.rows ≡ traced_rows v l.s.count (take l.j l.sigs))
