use Rattle.std.proofs.Common.{◌≡◌, take}
use Rattle.cycle_sim.specs.Simulation.{bits_of, traced_rows}
use Rattle.cycle_sim.proofs.traces.trace_of.Given as goal

abbrev pub invariant-loop-sig : goal.invariant-loop-sig
invariant-loop-sig l = (l.dump.cycles ≡ l.e.count) × (l.dump.rows ≡ traced_rows (bits_of l.e) l.e.count (take l.sig-index l.sigs))
