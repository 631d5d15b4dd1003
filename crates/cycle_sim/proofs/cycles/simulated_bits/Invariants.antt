use Rattle.std.proofs.Common.{ℕ, ◌≡◌, ◌<◌, length, get_or}
use Rattle.sr_model.specs.Netlist.{Valuation, cell_at}
use Rattle.netlist.specs.Wiring.{flip_flops}
use Rattle.cycle_sim.specs.BitTable.{bit_in}
use Rattle.cycle_sim.specs.Simulation.{IsSimulated}
use Rattle.cycle_sim.specs.Frames.{IsState}
use Rattle.cycle_sim.proofs.cycles.simulated_bits.Given as goal

-- the rows of the first cycles are right, and so is the state for the next one
abbrev pub invariant-loop-cycle : goal.invariant-loop-cycle
invariant-loop-cycle l =
    (length l.frame.items ≡ length l.n.drivers) × (length l.state.items ≡ length (flip_flops l.n.drivers)) × (length l.row.items ≡ length l.kept)
    × (l.bits.width ≡ length l.kept) × (l.bits.count ≡ l.s.count) × (l.cycle < l.s.count → IsState l.n l.s l.cycle l.state.items)
    × ((v : Valuation) → IsSimulated l.n l.s.count (bit_in l.s) v → (c j : ℕ) → c < l.cycle → j < length l.kept → bit_in l.bits c j ≡ v (cell_at c (get_or l.kept j (record { 0 = 0 }))))
