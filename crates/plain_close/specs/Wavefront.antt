-- Chunks that go on from level to level, each one after the one before it.
use Rattle.std.specs.Prelude.{ℕ, ◌≡◌, ◌<◌, ◌≤◌, ◌+◌, ◌-◌, ◌/◌, ◌==◌, ◌⊎◌, ◌↔◌, Bool, true, IsTrue, IsFalse, length, Option, Some, None, if◌then◌else◌}
use Rattle.std.specs.List.{Contains}
use Rattle.sr_model.specs.declared.cells.Cell.{Cell}
use Rattle.sr_model.specs.declared.cells.Lit.{Lit}
use Rattle.sr_model.specs.declared.cells.Place.{Place}
use Rattle.sr_model.specs.Closure.{ForcesAt, HasBoth, LitSet, level}
use Rattle.sr_model.specs.Order.{CellLe}
use Rattle.sr_model.specs.Limits.{max_gate_signals}
use Rattle.unroll.specs.declared.problem.Task.{Task}
use Rattle.unroll.specs.Problem.{Unrolling, IsProblem, chunks_in, unrolled}
use Rattle.unroll.specs.Tasks.{IsTask}
use Rattle.gate_rules.specs.Forced.{ForcedIn}
use Rattle.known_planes.specs.Planes.{PlaneSet, IsOf, has, lits}
use Rattle.known_planes.specs.Counts.{literal_count}
use Rattle.plain_close.specs.declared.changes.Added.{Added}
use Rattle.plain_close.specs.declared.changes.Change.{Change}
use Rattle.plain_close.specs.declared.levels.Clash.{Clash}
use Rattle.plain_close.specs.declared.wavefront.Wavefront.{Wavefront}
use Rattle.plain_close.specs.Worklist.{IsWorklistOf, TaskWaits}
use Rattle.plain_close.specs.Changes.{IsChange, IsListed, changes_in}

-- the literals of a level above a base
abbrev pub level_of : Unrolling → PlaneSet → ℕ → LitSet
level_of u base n = level (unrolled u) (lits u base) n

-- Each chunk is at a level: the planes have the literals of its cells there, and of the next level those that are listed. Each task waits, or what it forces is known or listed; and where a chunk is one level
-- ahead of the next one, all that its tasks force there from the next one's level is.
pub record IsWavefront (u : Unrolling) (base : PlaneSet) (levels : ℕ → ℕ) (w : Wavefront) : Type 0 where
  pub problem : IsProblem u
  pub of : IsOf u w.planes
  pub worklist : IsWorklistOf u w.worklist
  pub room : max_gate_signals ≤ w.buffers.blocks.room
  pub size : length w.changes.items ≡ chunks_in u
  pub changes : (at : ℕ) (change : Change) → Contains (changes_in w.changes.items at) change → IsChange u at change × IsTrue change.again
  pub literals : (l : Lit) → (has u w.planes l ≡ true) ↔ level_of u base (levels (l.cell.cycle / 64)) l
  pub sound : (l : Lit) → l.cell.cycle < u.cycles → IsListed w.changes.items l → level_of u base (levels (l.cell.cycle / 64) + 1) l
  pub settled : (t : Task) → IsTask u t → TaskWaits u w.worklist t ⊎ ((l : Lit) → ForcedIn u t (has u w.planes) l → (has u w.planes l ≡ true) ⊎ IsListed w.changes.items l)
  pub ahead : (chunk : ℕ) → chunk + 1 < chunks_in u → levels chunk ≡ levels (chunk + 1) + 1
      → (p : Place) (l : Lit) → p.cycle / 64 ≡ chunk → l.cell.cycle / 64 ≡ chunk + 1 → ForcesAt (unrolled u) (level_of u base (levels (chunk + 1))) p l → (has u w.planes l ≡ true) ⊎ IsListed w.changes.items l

-- one chunk goes on
abbrev pub with_step : ℕ → (ℕ → ℕ) → ℕ → ℕ
with_step chunk levels at = if at == chunk then levels at + 1 else levels at

-- the chunk is at this level, the next one too, and the one before it at the next level
pub record MayStep (u : Unrolling) (levels : ℕ → ℕ) (chunk level : ℕ) : Type 0 where
  pub early : chunk < chunks_in u
  pub here : levels chunk ≡ level
  pub next : chunk + 1 < chunks_in u → levels (chunk + 1) ≡ level
  pub before : 0 < chunk → levels (chunk - 1) ≡ level + 1

-- the chunk went on, and whether a literal was added or a cell has both since
pub record Steps (u : Unrolling) (base : PlaneSet) (levels : ℕ → ℕ) (chunk : ℕ) (added : Added) (old new : Wavefront) : Type 0 where
  pub wavefront : IsWavefront u base (with_step chunk levels) new
  pub bits : (l : Lit) → has u old.planes l ≡ true → has u new.planes l ≡ true
  pub same : IsFalse added.some → new.planes ≡ old.planes
  pub more : IsTrue added.some → literal_count u old.planes < literal_count u new.planes
  pub clash : IsFalse added.clash → (c : Cell) → HasBoth (lits u new.planes) c → HasBoth (lits u old.planes) c

-- the first one comes before a cell in a level, or is that
abbrev pub ComesBefore : Clash → ℕ → Cell → Type 0
ComesBefore first n c = (first.level < n) ⊎ ((first.level ≡ n) × CellLe first.cell c)

-- the least cell with both literals in the first level that has one, of those that the chunks have come to; none where no level there has one
abbrev pub IsFirst : Unrolling → PlaneSet → (ℕ → ℕ) → Option Clash → Type 0
IsFirst u base levels None = (n : ℕ) (c : Cell) → n ≤ levels (c.cycle / 64) → HasBoth (level_of u base n) c → ⊥
IsFirst u base levels (Some first) =
    (first.level ≤ levels (first.cell.cycle / 64)) × HasBoth (level_of u base first.level) first.cell
    × ((n : ℕ) (c : Cell) → n ≤ levels (c.cycle / 64) → HasBoth (level_of u base n) c → ComesBefore first n c)

-- what a chunk's step notes of its cells with both literals in its new level: it keeps the first one of them and of what was noted
pub record Notes (u : Unrolling) (planes : PlaneSet) (chunk level : ℕ) (old new : Option Clash) : Type 0 where
  pub cells : (c : Cell) → c.cycle / 64 ≡ chunk → HasBoth (lits u planes) c → (first : Clash) × (new ≡ Some first) × ComesBefore first level c
  pub kept : (noted : Clash) → old ≡ Some noted → (first : Clash) × (new ≡ Some first) × ComesBefore first noted.level noted.cell
  pub only : (first : Clash) → new ≡ Some first → (old ≡ Some first) ⊎ ((first.level ≡ level) × (first.cell.cycle / 64 ≡ chunk) × HasBoth (lits u planes) first.cell)

-- the chunk went on, and the first cell with both literals is noted
pub record GoesOn (u : Unrolling) (base : PlaneSet) (levels : ℕ → ℕ) (some : Bool) (old new : Wavefront) : Type 0 where
  pub wavefront : IsWavefront u base levels new
  pub first : IsFirst u base levels new.first
  pub bits : (l : Lit) → has u old.planes l ≡ true → has u new.planes l ≡ true
  pub same : IsFalse some → new.planes ≡ old.planes
  pub more : IsTrue some → literal_count u old.planes < literal_count u new.planes

-- levels are numbers of 32 bits
abbrev pub greatest_level : ℕ
greatest_level = 4294967295

-- how many levels the chunks go on together
abbrev pub levels_together : ℕ
levels_together = 4

-- the level of a chunk, which was this level at first, at a time, after so many steps of that time: the chunk takes its first step at the time of its number, and one at each time then
pub record IsAt (level time steps chunk at : ℕ) : Type 0 where
  pub later : time < chunk → at ≡ level
  pub ahead : chunk ≤ time → time < chunk + steps → at + chunk ≡ level + time + 1
  pub behind : chunk + steps ≤ time → time < chunk + levels_together → at + chunk ≡ level + time
  pub done : chunk + levels_together ≤ time → at ≡ level + levels_together

-- after so many steps of a time: each chunk is where it is to be, and nothing changed, or there is a literal more
pub record IsUnderWay (u : Unrolling) (base : PlaneSet) (level time steps : ℕ) (some : Bool) (old new : Wavefront) : Type 0 where
  pub levels : ℕ → ℕ
  pub at : (chunk : ℕ) → chunk < chunks_in u → IsAt level time steps chunk (levels chunk)
  pub goes : GoesOn u base levels some old new
