-- The order of cells, of literals and of places.
use Rattle.std.specs.Prelude.{◌≡◌, ◌<◌, ◌≤◌, ◌⊎◌, Bool, false, true}
use Rattle.sr_model.specs.declared.cells.Cell.{Cell}
use Rattle.sr_model.specs.declared.cells.Lit.{Lit}
use Rattle.sr_model.specs.declared.cells.Place.{Place}

-- by cycle and then by signal
abbrev pub CellLe : Cell → Cell → Type 0
CellLe a b = (a.cycle < b.cycle) ⊎ ((a.cycle ≡ b.cycle) × (a.sig.0 ≤ b.sig.0))

-- 0 stands before 1
abbrev pub BitLe : Bool → Bool → Type 0
BitLe a b = (a ≡ false) ⊎ (b ≡ true)

-- by cell and then by bit
abbrev pub LitLe : Lit → Lit → Type 0
LitLe a b = CellLe a.cell b.cell × (a.cell ≡ b.cell → BitLe a.bit b.bit)

-- by cycle and then by the target's signal
abbrev pub PlaceLe : Place → Place → Type 0
PlaceLe a b = (a.cycle < b.cycle) ⊎ ((a.cycle ≡ b.cycle) × (a.target.0 ≤ b.target.0))
