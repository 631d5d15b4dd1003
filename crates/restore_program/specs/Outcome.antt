-- What follows from a dump.
use Rattle.std.specs.Prelude.{ℕ, ◌≡◌, ◌<◌, ◌≤◌, List}
use Rattle.sr_model.specs.Limits.{max_cells}
use Rattle.sr_model.specs.declared.cells.Cell.{Cell}
use Rattle.sr_model.specs.Closure.{HasBoth, IsClash, SameLits, passing}
use Rattle.sr_model.specs.Dump.{Known, Row, dump_has}
use Rattle.unroll.specs.Problem.{Unrolling, signals_in, unrolled}
use Rattle.known_planes.specs.Planes.{PlaneSet, IsOf, lits}
use Rattle.known_planes.specs.Counts.{known_count}
use Rattle.restore_program.specs.declared.restore.Outcome.{Outcome}
use Rattle.restore_program.specs.declared.restore.Outcome.TheVariants as outcomes

-- the planes are what is known, with both literals of no cell
pub record IsKnown (u : Unrolling) (rows : List Row) (planes : PlaneSet) : Type 0 where
  pub of : IsOf u planes
  pub no_clash : (cell : Cell) → HasBoth (lits u planes) cell → ⊥
  pub known : SameLits (lits u planes) (Known (unrolled u) rows)

-- so many cells of flip-flops have a bit in the rows
abbrev pub IsTraced : Unrolling → List Row → ℕ → Type 0
IsTraced u rows traced = (traced ≡ known_count u.circuit u.cycles (dump_has rows)) × (traced ≤ max_cells)

-- the least cell with both literals in the first level that has one
abbrev pub IsFirstClash : Unrolling → List Row → Cell → Type 0
IsFirstClash u rows cell = (cell.sig.0 < signals_in u) × ((level : ℕ) × IsClash (unrolled u) (passing (dump_has rows)) cell level)

-- rows of a problem lead to this
abbrev pub IsOutcome : Unrolling → List Row → Outcome → Type 0
IsOutcome u rows (outcomes.Known planes traced) = IsKnown u rows planes × IsTraced u rows traced
IsOutcome u rows (outcomes.Clash cell) = IsFirstClash u rows cell
