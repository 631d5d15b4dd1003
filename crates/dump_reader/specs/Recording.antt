-- What a dump records.
use Rattle.std.specs.Prelude.{ℕ, ◌≡◌, ◌≢◌, ◌≤◌, Bool, true, false, List, length, map, Option, Some, None}
use Rattle.std.specs.List.{All, AllPairs}
use Rattle.sr_model.specs.declared.cells.Sig.{Sig}
use Rattle.sr_model.specs.Dump.{Row}
use Rattle.sr_model.specs.Limits.{max_cycles}
use Rattle.dump_reader.specs.declared.dump.Tri.{Tri}
use Rattle.dump_reader.specs.declared.dump.Tri.TheVariants.{Zero, One, X}

-- what a dump records: so many cycles, and the rows of some signals
pub record Recording : Type 0 where
  pub cycles : ℕ
  pub rows : List Row

-- the bit of a cell, or none for x
abbrev pub tri_bit : Tri → Option Bool
tri_bit Zero = Some false
tri_bit One = Some true
tri_bit X = None

-- the row of a signal with these cells
abbrev pub row_of : Sig → List Tri → Row
row_of sig cells = record { sig = sig; bits = map tri_bit cells }

-- the signals that have a row, in the order of the rows
abbrev pub recorded : List Row → List Sig
recorded rows = map (λ row. row.sig) rows

abbrev pub IsCount : ℕ → Type 0
IsCount cycles = (1 ≤ cycles) × (cycles ≤ max_cycles)

-- 1 to 8,192 cycles, a bit or none for each cycle in each row, and no signal with two rows
pub record IsRecording (r : Recording) : Type 0 where
  pub count : IsCount r.cycles
  pub full : All (λ row. length row.bits ≡ r.cycles) r.rows
  pub once : AllPairs (λ a b. a ≢ b) (recorded r.rows)
