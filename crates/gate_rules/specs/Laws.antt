-- The laws of what tasks force, for every problem and each set of literals that a test gives.
use Rattle.std.specs.Prelude.{ℕ, ◌≡◌, ◌^◌, ◌%◌, ◌<◌, ◌↔◌, ◌⊎◌, Bool, true, false, List, length}
use Rattle.sr_model.specs.declared.cells.Cell.{Cell}
use Rattle.sr_model.specs.declared.cells.Lit.{Lit}
use Rattle.sr_model.specs.declared.cells.Place.{Place}
use Rattle.sr_model.specs.Closure.{ForcesAt, HasBoth, IsClosed, IsWithin, lit, passing}
use Rattle.unroll.specs.declared.problem.Task.{Task}
use Rattle.unroll.specs.declared.words.PinWord.{PinWord}
use Rattle.unroll.specs.Problem.{Unrolling, unrolled, IsProblem}
use Rattle.unroll.specs.Tasks.{IsTask, IsPlaceOf, IsCellOf, drives_itself, target_of, blocks_of}
use Rattle.gate_rules.specs.Forced.{ForcedIn, ForcedInCycles, IsDone, IsViewOf, AreForcedBy, AreForcedInCyclesBy, IsForcedExactly, IsForcedExactlyIn}

-- what a task forces is of its own cells, in cycles that are there
abbrev pub ForcedOnCells : Type 0
ForcedOnCells = (u : Unrolling) (t : Task) (known : Lit → Bool) (l : Lit) → ForcedIn u t known l → IsCellOf u t l.cell × (l.cell.cycle < u.cycles)

-- it depends on the known literals of these cells alone, and grows with them
abbrev pub ForcedByCells : Type 0
ForcedByCells =
    (u : Unrolling) (t : Task) (few many : Lit → Bool) → ((c : Cell) (bit : Bool) → IsCellOf u t c → few (lit c bit) ≡ true → many (lit c bit) ≡ true)
    → IsWithin (ForcedIn u t few) (ForcedIn u t many)

-- so a view of known literals shows a task what they force, in all cycles as in those of a mask
abbrev pub ForcedByView : Type 0
ForcedByView =
    (u : Unrolling) (t : Task) (known : Lit → Bool) (view words : List PinWord) → IsProblem u → IsTask u t
    → length view ≡ length (blocks_of u t) → IsViewOf u (blocks_of u t) known view
    → (IsForcedExactly u t (blocks_of u t) view words → AreForcedBy u t (blocks_of u t) known words)
    × ((mask : ℕ) → IsForcedExactlyIn u t mask (blocks_of u t) view words → AreForcedInCyclesBy u t mask (blocks_of u t) known words)

-- in the mask of one cycle it is what the instance at the task's place in this cycle forces
abbrev pub ForcedAtPlace : Type 0
ForcedAtPlace =
    (u : Unrolling) (t : Task) (p : Place) (known : Lit → Bool) (l : Lit) → IsPlaceOf u t p
    → ForcedInCycles u t (2 ^ (p.cycle % 64)) known l ↔ ForcesAt (unrolled u) (passing known) p l

-- literals are closed exactly where each task is done
abbrev pub ClosedWhereDone : Type 0
ClosedWhereDone = (u : Unrolling) (known : Lit → Bool) → IsClosed (unrolled u) (passing known) ↔ ((t : Task) → IsTask u t → IsDone u t known)

-- A task is done once it has had its turn: on its cells there is what was known and what that forces, and no cell has both literals; its flip-flop does not drive itself.
abbrev pub DoneOnce : Type 0
DoneOnce =
    (u : Unrolling) (t : Task) (known all : Lit → Bool) → drives_itself u (target_of u t) ≡ false
    → ((l : Lit) → IsCellOf u t l.cell → (all l ≡ true) ↔ ((known l ≡ true) ⊎ ForcedIn u t known l))
    → ((c : Cell) → IsCellOf u t c → HasBoth (passing all) c → ⊥)
    → IsDone u t all
