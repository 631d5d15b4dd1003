use Rattle.std.proofs.Common.{ℕ, ◌≡◌, ◌<◌, ◌*◌, length}
use Rattle.cycle_sim.specs.BitTable.{bit_in}
use Rattle.cycle_sim.specs.Drawing.{drawn_bit}
use Rattle.cycle_sim.specs.Words.{generator_at}
use Rattle.cycle_sim.proofs.drawing.stimulus.Given as goal

-- the rows of the first cycles are drawn
abbrev pub invariant-loop-cycle : goal.invariant-loop-cycle
invariant-loop-cycle l =
    (l.bits.width ≡ l.inputs) × (l.bits.count ≡ l.fn.cycles) × (length l.row.items ≡ l.inputs) × (l.generator ≡ generator_at 1 l.seed (l.cycle * l.inputs))
    × ((c j : ℕ) → c < l.cycle → j < l.inputs → bit_in l.bits c j ≡ drawn_bit l.seed l.inputs c j)
