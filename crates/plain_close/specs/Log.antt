-- What follows from a base, level by level: each literal once, with the least place that forces it.
use Rattle.std.specs.Prelude.{ℕ, suc, ◌≡◌, ◌≢◌, ◌<◌, ◌⊎◌, ◌↔◌, false, true, List, [], ◌++◌, Option, Some, None}
use Rattle.std.specs.List.{All, AllPairs, Any}
use Rattle.sr_model.specs.declared.cells.Cell.{Cell}
use Rattle.sr_model.specs.declared.cells.Lit.{Lit}
use Rattle.sr_model.specs.declared.cells.Place.{Place}
use Rattle.sr_model.specs.Netlist.{Unrolled}
use Rattle.sr_model.specs.Closure.{ForcesAt, ForcesSomewhere, HasBoth, IsLeastClash, LitSet, level}
use Rattle.sr_model.specs.Order.{PlaceLe}
use Rattle.plain_close.specs.declared.log.Step.{Step}

-- by cycle, then by signal, and then by bit
abbrev pub LitLt : Lit → Lit → Type 0
LitLt a b =
    (a.cell.cycle < b.cell.cycle)
    ⊎ ((a.cell.cycle ≡ b.cell.cycle) × ((a.cell.sig.0 < b.cell.sig.0) ⊎ ((a.cell.sig.0 ≡ b.cell.sig.0) × (a.bit ≡ false) × (b.bit ≡ true))))

-- no cell has both literals in the set
abbrev pub HasNoClash : LitSet → Type 0
HasNoClash known = (c : Cell) → ¬ HasBoth known c

-- the steps that follow at a level: each literal that the level forces and does not have, once, in the order of literals, with the least place that forces it
pub record AreNextSteps (u : Unrolled) (known : LitSet) (steps : List Step) : Type 0 where
  pub exact : (l : Lit) → Any (λ step. step.lit ≡ l) steps ↔ (ForcesSomewhere u known l × ¬ known l)
  pub ordered : AllPairs (λ a b. LitLt a.lit b.lit) steps
  pub forced : All (λ step. ForcesAt u known step.place step.lit) steps
  pub least : All (λ step. (q : Place) → ForcesAt u known q step.lit → PlaceLe step.place q) steps

-- the steps from a level on, and the clash in which they end: the least one of the first level that has one, whose own steps are all there; none where the levels end without one
pub data IsLogFrom (u : Unrolled) (base : LitSet) : ℕ → List Step → Option Cell → Type 0 where
  clashes : (i : ℕ) (cell : Cell) → IsLeastClash (level u base i) cell → IsLogFrom u base i [] (Some cell)
  ends : (i : ℕ) → HasNoClash (level u base i) → AreNextSteps u (level u base i) [] → IsLogFrom u base i [] None
  goes_on : (i : ℕ) (now later : List Step) (clash : Option Cell) → HasNoClash (level u base i) → AreNextSteps u (level u base i) now → now ≢ [] → IsLogFrom u base (suc i) later clash
      → IsLogFrom u base i (now ++ later) clash

-- the steps from the base on
abbrev pub IsLog : Unrolled → LitSet → List Step → Option Cell → Type 0
IsLog u base steps clash = IsLogFrom u base 0 steps clash
