use Rattle.std.proofs.Common.{ℕ, ◌≡◌, ◌<◌, ◌+◌, false, length, get_or}
use Rattle.sr_model.specs.Netlist.{Valuation, cell_at}
use Rattle.cycle_sim.specs.BitTable.{BitTable, bit_in}
use Rattle.cycle_sim.specs.Simulation.{IsSimulated}
use Rattle.cycle_sim.specs.Frames.{AllRight}
use Rattle.cycle_sim.proofs.cycles.next_state.Given as goal

-- the first flip-flops have their next bits, if there is a next cycle
abbrev pub invariant-loop-j : goal.invariant-loop-j
invariant-loop-j l =
    (length l.state ≡ length l.fn.state)
    × ((s : BitTable) (cycle : ℕ) → AllRight l.n s cycle l.frame → cycle + 1 < s.count → (v : Valuation) → IsSimulated l.n s.count (bit_in s) v → (k : ℕ) → k < l.j
    → get_or l.state k false ≡ v (cell_at (cycle + 1) (get_or l.flip_flops k (record { 0 = 0 }))))
