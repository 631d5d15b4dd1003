-- The execution of a netlist with given bits on its inputs, and its traces.
use Rattle.std.specs.Prelude.{ℕ, ◌≡◌, ◌<◌, Bool, true, false, List, map, length, Some, slice_index_or}
use Rattle.std.specs.List.{range_with_len}
use Rattle.sr_model.specs.declared.cells.Sig.{Sig}
use Rattle.sr_model.specs.declared.cells.Cell.{Cell}
use Rattle.sr_model.specs.declared.cells.Lit.{Lit}
use Rattle.sr_model.specs.Netlist.{Valuation, IsExecution, Has, cell_at}
use Rattle.sr_model.specs.Closure.{Closure, IsWithin, passing}
use Rattle.sr_model.specs.Dump.{Row}
use Rattle.netlist.specs.Circuit.{Circuit, unrolled_over}
use Rattle.netlist.specs.Wiring.{driver_at, is_flip_flop}
use Rattle.cycle_sim.specs.BitTable.{BitTable, bit_in}

-- An execution over so many cycles, with the given bits on the inputs and 0 on each flip-flop in cycle 0. A bit is given by its cycle and by the place of its
-- input among the inputs.
pub record IsSimulated (c : Circuit) (cycles : ℕ) (given : ℕ → ℕ → Bool) (v : Valuation) : Type 0 where
  pub execution : IsExecution (unrolled_over c cycles) v
  pub inputs : (cycle j : ℕ) → cycle < cycles → j < length c.inputs → v (cell_at cycle (slice_index_or c.inputs j (record { 0 = 0 }))) ≡ given cycle j
  pub start : (s : Sig) → is_flip_flop (driver_at c.drivers s.0) ≡ true → v (cell_at 0 s) ≡ false

-- the same bits for so many inputs over so many cycles
abbrev pub AgreeOnInputs : ℕ → ℕ → (ℕ → ℕ → Bool) → (ℕ → ℕ → Bool) → Type 0
AgreeOnInputs inputs cycles given others = (cycle input : ℕ) → cycle < cycles → input < inputs → given cycle input ≡ others cycle input

-- the bit of each cell, where the rows are cycles and the columns signals
abbrev pub bits_of : BitTable → Valuation
bits_of e cell = bit_in e cell.cycle cell.sig.0

-- the same bits on all cells of the netlist over so many cycles
abbrev pub AgreeOnCells : Circuit → ℕ → Valuation → Valuation → Type 0
AgreeOnCells c cycles v w = (cell : Cell) → cell.sig.0 < length c.drivers → cell.cycle < cycles → v cell ≡ w cell

-- whatever is known of the valuation, what follows from it over so many cycles is so in the valuation
abbrev pub HasWhatFollows : Circuit → ℕ → Valuation → Type 0
HasWhatFollows c cycles v = (base : Lit → Bool) → IsWithin (passing base) (Has v) → IsWithin (Closure (unrolled_over c cycles) (passing base)) (Has v)

-- the rows of signals with a valuation's bits, a bit for each cycle
abbrev pub traced_row : Valuation → ℕ → Sig → Row
traced_row v cycles s = record { sig = s; bits = map (λ cycle. Some (v (cell_at cycle s))) (range_with_len 0 cycles) }

abbrev pub traced_rows : Valuation → ℕ → List Sig → List Row
traced_rows v cycles sigs = map (traced_row v cycles) sigs
