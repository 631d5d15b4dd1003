use Rattle.std.proofs.Common.{ℕ, ◌≡◌, ◌<◌, length, get_or}
use Rattle.sr_model.specs.Netlist.{Valuation}
use Rattle.cycle_sim.specs.BitTable.{bit_in}
use Rattle.cycle_sim.specs.Simulation.{IsSimulated}
use Rattle.cycle_sim.specs.Frames.{IsRight}
use Rattle.cycle_sim.proofs.cycles.set_inputs.Given as goal

-- the first inputs are right
abbrev pub invariant-loop-j : goal.invariant-loop-j
invariant-loop-j l =
    (length l.frame ≡ length l.fn.frame)
    × ((v : Valuation) → IsSimulated l.n l.s.count (bit_in l.s) v → (k : ℕ) → k < l.j → IsRight v l.cycle l.frame (get_or l.inputs k (record { 0 = 0 })))
