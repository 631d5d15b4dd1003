use Rattle.std.proofs.Common.{ℕ, ◌≡◌, ◌<◌, false, List, Bool, length, get_or, map}
use Rattle.sr_model.specs.declared.cells.Sig.{Sig}
use Rattle.sr_model.specs.Netlist.{Valuation}
use Rattle.netlist.specs.Circuit.{Circuit}
use Rattle.netlist.specs.Wiring.{driver_at, is_gate}
use Rattle.cycle_sim.specs.BitTable.{BitTable, bit_in}
use Rattle.cycle_sim.specs.Simulation.{IsSimulated}
use Rattle.cycle_sim.specs.Frames.{AreRight, IsRight, StayRight}
use Rattle.cycle_sim.proofs.cycles.set_gates.Given as goal

-- in a cycle of the stimulus all others than gates are right
abbrev pub OthersRight : Circuit → List Bool → BitTable → ℕ → Type 0
OthersRight c frame s cycle = (cycle < s.count) × AreRight c s cycle frame (λ (sig : Sig). is_gate (driver_at c.drivers sig.0) ≡ false)

-- the first gates are right, and what was right is
abbrev pub invariant-loop-gate : goal.invariant-loop-gate
invariant-loop-gate l =
    (length l.frame ≡ length l.fn.frame)
    × ((s : BitTable) (cycle : ℕ) → OthersRight l.n l.fn.frame s cycle
    → StayRight l.n s cycle l.fn.frame l.frame
    × ((v : Valuation) → IsSimulated l.n s.count (bit_in s) v → (k : ℕ) → k < l.gate-index → IsRight v cycle l.frame (get_or (map (λ gate. gate.target) l.gates) k (record { 0 = 0 }))))
