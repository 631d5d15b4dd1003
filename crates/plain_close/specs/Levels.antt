-- What is known and listed from level to level.
use Rattle.std.specs.Prelude.{ℕ, suc, ◌≡◌, ◌≢◌, ◌<◌, ◌≤◌, ◌/◌, ◌⊎◌, ◌↔◌, ◌++◌, [], true, IsTrue, IsFalse, List, length}
use Rattle.std.specs.List.{AllPairs, Contains}
use Rattle.sr_model.specs.declared.cells.Cell.{Cell}
use Rattle.sr_model.specs.declared.cells.Lit.{Lit}
use Rattle.sr_model.specs.declared.cells.Place.{Place}
use Rattle.sr_model.specs.Closure.{HasBoth}
use Rattle.sr_model.specs.Limits.{max_gate_signals}
use Rattle.sr_model.specs.Order.{PlaceLe}
use Rattle.sr_model.specs.Room.{WithRoom}
use Rattle.unroll.specs.declared.problem.Task.{Task}
use Rattle.unroll.specs.Problem.{Unrolling, IsProblem, chunks_in, unrolled}
use Rattle.unroll.specs.Tasks.{IsTask, target_of}
use Rattle.gate_rules.specs.Forced.{ForcedIn}
use Rattle.known_planes.specs.Counts.{literal_count}
use Rattle.known_planes.specs.Planes.{PlaneSet, IsOf, has, lits}
use Rattle.plain_close.specs.declared.changes.Added.{Added}
use Rattle.plain_close.specs.declared.changes.Change.{Change}
use Rattle.plain_close.specs.declared.log.Level.{Level}
use Rattle.plain_close.specs.declared.log.Step.{Step}
use Rattle.plain_close.specs.declared.worklist.Worklist.{Worklist}
use Rattle.plain_close.specs.Changes.{IsForcedChange, IsListed, IsListedBy, changes_in}
use Rattle.plain_close.specs.Log.{AreNextSteps, LitLt}
use Rattle.plain_close.specs.Steps.{IsForcedAt}
use Rattle.plain_close.specs.Wavefront.{level_of}
use Rattle.plain_close.specs.Worklist.{IsSettled, IsWorklistOf, TaskWaits}

-- the planes have the level's literals, each task waits or is done, and nothing is listed
pub record IsLevel (u : Unrolling) (base : PlaneSet) (i : ℕ) (level : Level) : Type 0 where
  pub problem : IsProblem u
  pub of : IsOf u level.planes
  pub worklist : IsWorklistOf u level.worklist
  pub room : max_gate_signals ≤ level.buffers.blocks.room
  pub size : length level.changes.items ≡ chunks_in u
  pub none : (at : ℕ) → changes_in level.changes.items at ≡ []
  pub literals : (l : Lit) → (has u level.planes l ≡ true) ↔ level_of u base i l
  pub settled : IsSettled u level.planes level.worklist

-- each change is one that a task forces from the planes, and all that any task forces is known or listed by it
pub record AreListed (u : Unrolling) (planes : PlaneSet) (lists : List (WithRoom Change)) : Type 0 where
  pub forced : (at : ℕ) (change : Change) → Contains (changes_in lists at) change → (chunk : ℕ) × IsForcedChange u (has u planes) chunk at change
  pub all : (t : Task) → IsTask u t → (l : Lit) → ForcedIn u t (has u planes) l → (has u planes l ≡ true) ⊎ IsListedBy lists (target_of u t) l

-- what the tasks force was listed
pub record Lists (u : Unrolling) (old new : Level) : Type 0 where
  pub problem : IsProblem u
  pub of : IsOf u new.planes
  pub planes : new.planes ≡ old.planes
  pub worklist : IsWorklistOf u new.worklist
  pub room : max_gate_signals ≤ new.buffers.blocks.room
  pub size : length new.changes.items ≡ chunks_in u
  pub listed : AreListed u new.planes new.changes.items

-- the steps of the cells in some chunks: each literal that the planes force and do not have, once, in the order of literals, with the least place that forces it
pub record AreStepsIn (u : Unrolling) (planes : PlaneSet) (IsIn : ℕ → Type 0) (steps : List Step) : Type 0 where
  pub all : (l : Lit) (q : Place) → IsIn (l.cell.cycle / 64) → IsFalse (has u planes l) → IsForcedAt u planes q l → (step : Step) × Contains steps step × (step.lit ≡ l)
  pub inside : (step : Step) → Contains steps step → IsIn (step.lit.cell.cycle / 64)
  pub unknown : (step : Step) → Contains steps step → IsFalse (has u planes step.lit)
  pub forced : (step : Step) → Contains steps step → IsForcedAt u planes step.place step.lit
  pub least : (step : Step) → Contains steps step → (q : Place) → IsForcedAt u planes q step.lit → PlaceLe step.place q
  pub ordered : AllPairs (λ a b. LitLt a.lit b.lit) steps

-- those of the first chunks were logged
abbrev pub LogsListed : Unrolling → PlaneSet → ℕ → List Step → List Step → Type 0
LogsListed u planes chunks old new = (now : List Step) × (new ≡ old ++ now) × AreStepsIn u planes (λ chunk. chunk < chunks) now

-- what is listed for the first chunks was added
pub record AddsFirst (u : Unrolling) (lists : List (WithRoom Change)) (chunks : ℕ) (added : Added) (old new : PlaneSet) (after : Worklist) : Type 0 where
  pub of : IsOf u new
  pub worklist : IsWorklistOf u after
  pub bits : (l : Lit) → has u old l ≡ true → has u new l ≡ true
  pub joined : (l : Lit) → l.cell.cycle < u.cycles → l.cell.cycle / 64 < chunks → IsListed lists l → has u new l ≡ true
  pub only : (l : Lit) → has u new l ≡ true → (has u old l ≡ true) ⊎ ((l.cell.cycle / 64 < chunks) × IsListed lists l)
  pub settled : (t : Task) → IsTask u t → TaskWaits u after t ⊎ ((l : Lit) → ForcedIn u t (has u new) l → (has u new l ≡ true) ⊎ IsListed lists l)
  pub same : IsFalse added.some → new ≡ old
  pub more : IsTrue added.some → literal_count u old < literal_count u new
  pub clash : IsFalse added.clash → (c : Cell) → HasBoth (lits u new) c → HasBoth (lits u old) c

-- all that is listed was added, and nothing is any more
pub record AddsListed (u : Unrolling) (old new : Level) (added : Added) : Type 0 where
  pub adds : AddsFirst u old.changes.items (chunks_in u) added old.planes new.planes new.worklist
  pub room : new.buffers ≡ old.buffers
  pub size : length new.changes.items ≡ length old.changes.items
  pub none : (at : ℕ) → changes_in new.changes.items at ≡ []

-- a level goes on to the next one, and its steps are logged
pub record GoesToNext (u : Unrolling) (base : PlaneSet) (i : ℕ) (added : Added) (old new : Level) (before after : List Step) : Type 0 where
  pub level : IsLevel u base (suc i) new
  pub now : List Step
  pub logged : after ≡ before ++ now
  pub steps : AreNextSteps (unrolled u) (level_of u base i) now
  pub more : now ≢ [] → literal_count u old.planes < literal_count u new.planes
  pub clash : IsFalse added.clash → (c : Cell) → HasBoth (lits u new.planes) c → HasBoth (lits u old.planes) c
