use Rattle.std.proofs.Common.{ℕ, ◌≡◌, ◌<◌, length, get_or}
use Rattle.sr_model.specs.Netlist.{Valuation}
use Rattle.cycle_sim.specs.BitTable.{BitTable, bit_in}
use Rattle.cycle_sim.specs.Simulation.{IsSimulated}
use Rattle.cycle_sim.specs.Frames.{IsRight, IsState, StayRight}
use Rattle.cycle_sim.proofs.cycles.set_flip_flops.Given as goal

-- the first flip-flops are right, and what was right is
abbrev pub invariant-loop-j : goal.invariant-loop-j
invariant-loop-j l =
    (length l.frame ≡ length l.fn.frame)
    × ((s : BitTable) (cycle : ℕ) → IsState l.n s cycle l.state
    → StayRight l.n s cycle l.fn.frame l.frame
    × ((v : Valuation) → IsSimulated l.n s.count (bit_in s) v → (k : ℕ) → k < l.j → IsRight v cycle l.frame (get_or l.flip_flops k (record { 0 = 0 }))))
