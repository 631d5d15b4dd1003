-- What a set of literals forces, and what follows from it.
use Rattle.std.specs.Prelude.{ℕ, zero, suc, ◌≡◌, ◌≤◌, ◌⊎◌, ⊤, Bool, true, false, IsTrue, List, [], ◌∷◌, Some}
use Rattle.std.specs.List.{Contains, All}
use Rattle.sr_model.specs.declared.cells.Cell.{Cell}
use Rattle.sr_model.specs.declared.cells.Lit.{Lit}
use Rattle.sr_model.specs.declared.cells.Place.{Place}
use Rattle.sr_model.specs.Order.{CellLe}
use Rattle.sr_model.specs.Netlist.{Unrolled, Instance, instance_at, cells_of, Valuation, IsRow, Has, Agrees}

-- a set of literals
abbrev pub LitSet : Type 1
LitSet = Lit → Type 0

abbrev pub lit : Cell → Bool → Lit
lit cell bit = record { cell = cell; bit = bit }

-- Some part of the known literals, on the instance's cells, agrees with a row, and each row that agrees with it has l.
pub record Forces (i : Instance) (known : LitSet) (l : Lit) : Type 0 where
  pub on_cells : Contains (cells_of i) l.cell
  pub part : List Lit
  pub part_known : All known part
  pub part_on_cells : All (λ x. Contains (cells_of i) x.cell) part
  pub row : Valuation
  pub is_row : IsRow i row
  pub row_agrees : Agrees row part
  pub forced : (v : Valuation) → IsRow i v → Agrees v part → Has v l

-- the known literals force l at the instance that stands at the place
pub record ForcesAt (u : Unrolled) (known : LitSet) (p : Place) (l : Lit) : Type 0 where
  pub instance : Instance
  pub stands : instance_at u p ≡ Some instance
  pub forces : Forces instance known l

abbrev pub ForcesSomewhere : Unrolled → LitSet → Lit → Type 0
ForcesSomewhere u known l = (p : Place) × ForcesAt u known p l

-- each literal of the list, whose newest stands first, is in the base or is forced at one instance by those before it
abbrev pub IsDerivation : Unrolled → LitSet → List Lit → Type 0
IsDerivation u base [] = ⊤
IsDerivation u base (l ∷ earlier) = (base l ⊎ ForcesSomewhere u (Contains earlier) l) × IsDerivation u base earlier

-- the literals that stand in some derivation
pub record Closure (u : Unrolled) (base : LitSet) (l : Lit) : Type 0 where
  pub steps : List Lit
  pub derived : IsDerivation u base steps
  pub stands : Contains steps l

-- each literal of the one set is in the other
abbrev pub IsWithin : LitSet → LitSet → Type 0
IsWithin few many = (l : Lit) → few l → many l

abbrev pub SameLits : LitSet → LitSet → Type 0
SameLits a b = IsWithin a b × IsWithin b a

-- the set has all that it forces
abbrev pub IsClosed : Unrolled → LitSet → Type 0
IsClosed u known = (l : Lit) → ForcesSomewhere u known l → known l

-- the base, and level by level all that the level before forces
abbrev pub level : Unrolled → LitSet → ℕ → Lit → Type 0
level u base zero l = base l
level u base (suc i) l = level u base i l ⊎ ForcesSomewhere u (level u base i) l

-- the set has both literals of the cell
abbrev pub HasBoth : LitSet → Cell → Type 0
HasBoth known c = known (lit c false) × known (lit c true)

-- c is the least cell that has both literals in the set
pub record IsLeastClash (known : LitSet) (c : Cell) : Type 0 where
  pub both : HasBoth known c
  pub least : (d : Cell) → HasBoth known d → CellLe c d

-- the first level that has both literals of some cell is level i, and c is the least such cell in it
pub record IsClash (u : Unrolled) (base : LitSet) (c : Cell) (i : ℕ) : Type 0 where
  pub first_level : (j : ℕ) (d : Cell) → HasBoth (level u base j) d → i ≤ j
  pub least_cell : IsLeastClash (level u base i) c

-- the literals that pass a test
abbrev pub passing : (Lit → Bool) → Lit → Type 0
passing test l = IsTrue (test l)
