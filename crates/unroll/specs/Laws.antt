-- The laws of blocks and tasks, for every problem.
use Rattle.std.specs.Prelude.{ℕ, IsTrue, ◌≡◌, ◌+◌, ◌-◌, ◌/◌, ◌<◌, ◌↔◌, ◌⊎◌, true, false, Some}
use Rattle.std.specs.List.{All, AllPairs, Contains}
use Rattle.sr_model.specs.declared.cells.Sig.{Sig}
use Rattle.sr_model.specs.declared.cells.Cell.{Cell}
use Rattle.sr_model.specs.declared.cells.Lit.{Lit}
use Rattle.sr_model.specs.declared.cells.Place.{Place}
use Rattle.sr_model.specs.Netlist.{Instance, instance_at, cells_of}
use Rattle.sr_model.specs.Closure.{ForcesAt, passing}
use Rattle.netlist.specs.Wiring.{driver_at, has_signal, is_flip_flop}
use Rattle.unroll.specs.declared.problem.Block.{Block}
use Rattle.unroll.specs.declared.problem.InChunk.{InChunk}
use Rattle.unroll.specs.declared.problem.Task.{Task}
use Rattle.unroll.specs.Bits.{is_set}
use Rattle.unroll.specs.Problem.{Unrolling, unrolled, IsProblem, IsInside, signals_in, chunks_in, blocks_in, block_at, block_in, sig_at, chunk_at, block_of, bit_of, cell_of}
use Rattle.unroll.specs.Records.{wakes_before, woken_signals}
use Rattle.unroll.specs.Tasks.{IsTask, IsTaskAt, IsPlaceOf, IsCellOf, CellRole, task_at, task_of, target_of, chunk_of, drives_itself, has_cell, blocks_of, blocks_from, adjacent_tasks, constant_tasks}

-- in a chunk that is there, the block of a signal has this signal and chunk, and is one of the blocks
abbrev pub BlocksBySignal : Type 0
BlocksBySignal =
    (u : Unrolling) (s : Sig) (chunk : ℕ) → chunk < chunks_in u
    → (sig_at u (block_at u s chunk) ≡ s) × (chunk_at u (block_at u s chunk) ≡ chunk) × (s.0 < signals_in u → (block_at u s chunk).0 < blocks_in u)

-- a block is that of its signal and chunk; where it is one of the blocks, both are there
abbrev pub SignalsByBlock : Type 0
SignalsByBlock =
    (u : Unrolling) (b : Block)
    → (block_at u (sig_at u b) (chunk_at u b) ≡ b) × (IsProblem u → b.0 < blocks_in u → ((sig_at u b).0 < signals_in u) × (chunk_at u b < chunks_in u))

-- a cell in time is that of its bit in its block, and its chunk is there
abbrev pub BitsByCell : Type 0
BitsByCell =
    (u : Unrolling) (c : Cell) → c.cycle < u.cycles → (cell_of u (block_of u c) (bit_of c) ≡ c) × (bit_of c < 64) × (c.cycle / 64 < chunks_in u)

-- the cell of a block's bit has this block and bit
abbrev pub CellsByBit : Type 0
CellsByBit = (u : Unrolling) (b : Block) (i : ℕ) → i < 64 → (block_of u (cell_of u b i) ≡ b) × (bit_of (cell_of u b i) ≡ i)

-- a task is that of its target and chunk
abbrev pub TargetsByTask : Type 0
TargetsByTask = (u : Unrolling) (t : Task) → task_at u (target_of u t) (chunk_of u t) ≡ t

-- in a chunk that is there, the task of a target has this target, chunk and blocks
abbrev pub TasksByTarget : Type 0
TasksByTarget =
    (u : Unrolling) (s : Sig) (chunk : ℕ) → chunk < chunks_in u
    → (target_of u (task_at u s chunk) ≡ s) × (chunk_of u (task_at u s chunk) ≡ chunk) × (blocks_of u (task_at u s chunk) ≡ blocks_from u s chunk)

-- each instance is one of one task
abbrev pub EachInOneTask : Type 0
EachInOneTask =
    (u : Unrolling) (p : Place) (i : Instance) → IsProblem u → instance_at (unrolled u) p ≡ Some i
    → IsTask u (task_of u p) × IsPlaceOf u (task_of u p) p × ((t : Task) → IsPlaceOf u t p → t ≡ task_of u p)

-- the block is one of those of the cells of the task's signals: in the task's chunk, or of a flip-flop in the next one
abbrev pub IsBlockOf : Unrolling → Task → Block → Type 0
IsBlockOf u t b =
    (b.0 < blocks_in u)
    × (((has_signal (driver_at u.circuit.drivers (target_of u t).0) (target_of u t) (sig_at u b) ≡ true) × (chunk_at u b ≡ chunk_of u t))
    ⊎ ((is_flip_flop (driver_at u.circuit.drivers (target_of u t).0) ≡ true) × (sig_at u b ≡ target_of u t) × (chunk_at u b ≡ chunk_of u t + 1)))

-- the blocks of a task are these, ascending
abbrev pub AreItsBlocks : Type 0
AreItsBlocks =
    (u : Unrolling) (t : Task) → IsProblem u → IsTask u t
    → AllPairs (λ a b. a.0 < b.0) (blocks_of u t) × ((b : Block) → Contains (blocks_of u t) b ↔ IsBlockOf u t b)

-- the test finds exactly the cells of the instances of a task
abbrev pub AreItsCells : Type 0
AreItsCells = (u : Unrolling) (t : Task) (c : Cell) → IsProblem u → IsTask u t → IsTrue (has_cell u t c) ↔ IsCellOf u t c

-- a cell is one of the instance at a place
pub record IsCellAt (u : Unrolling) (p : Place) (c : Cell) : Type 0 where
  pub instance : Instance
  pub stands : instance_at (unrolled u) p ≡ Some instance
  pub has_cell : Contains (cells_of instance) c

-- exactly the target's cell and those of the pins are
abbrev pub CellsHaveRoles : Type 0
CellsHaveRoles = (u : Unrolling) (p : Place) (c : Cell) → IsCellAt u p c ↔ CellRole u p c

-- two instances of a task have no cell in common, unless its flip-flop drives itself
abbrev pub ShareNoCell : Type 0
ShareNoCell = (u : Unrolling) (t : Task) (c : Cell) → drives_itself u (target_of u t) ≡ false → (one other : IsCellOf u t c) → one.place ≡ other.place

-- the words that have a cell of an instance are those of a block of its task
abbrev pub HaveItsCells : Type 0
HaveItsCells = (u : Unrolling) (t : Task) (c : Cell) → IsProblem u → IsTask u t → IsCellOf u t c → Contains (blocks_of u t) (block_of u c)

-- and that block is in the task
abbrev pub AdjoinTheirTasks : Type 0
AdjoinTheirTasks = (u : Unrolling) (t : Task) (c : Cell) → IsProblem u → IsTask u t → IsCellOf u t c → Contains (adjacent_tasks u (block_of u c)) t

-- what a block is in are tasks
abbrev pub AdjacentAreTasks : Type 0
AdjacentAreTasks = (u : Unrolling) (b : Block) (t : Task) → IsProblem u → b.0 < blocks_in u → Contains (adjacent_tasks u b) t → IsTask u t

-- an instance of the task forces something from nothing
pub record ForcesFromNothing (u : Unrolling) (t : Task) : Type 0 where
  pub place : Place
  pub belongs : IsPlaceOf u t place
  pub l : Lit
  pub forces : ForcesAt (unrolled u) (passing (λ _. false)) place l

-- the constant tasks are those that force something from nothing, ascending
abbrev pub ForceFromNothing : Type 0
ForceFromNothing =
    (u : Unrolling) → IsProblem u
    → AllPairs (λ a b. a.0 < b.0) (constant_tasks u) × ((t : Task) → Contains (constant_tasks u) t ↔ (IsTask u t × ForcesFromNothing u t))

-- the task is one of those that wait once these bits of the signal's block in the chunk are fresh
abbrev pub IsWoken : Unrolling → InChunk → ℕ → Task → Type 0
IsWoken u at fresh t =
    ((wakes_before u.circuit.drivers at.sig at.chunk fresh ≡ true) × (t ≡ task_at u at.sig (at.chunk - 1)))
    ⊎ ((r : Sig) × Contains (woken_signals u.circuit.drivers at.sig fresh) r × (t ≡ task_at u r at.chunk))

-- a task with a cell whose bit is fresh is woken
abbrev pub FreshBitsWake : Type 0
FreshBitsWake =
    (u : Unrolling) (at : InChunk) (fresh : ℕ) (t : Task) (c : Cell) → IsProblem u → IsInside u at → IsTask u t → IsCellOf u t c
    → block_of u c ≡ block_in u at → is_set fresh (bit_of c) ≡ true → IsWoken u at fresh t

-- what is woken are tasks
abbrev pub WokenAreTasks : Type 0
WokenAreTasks = (u : Unrolling) (at : InChunk) (fresh : ℕ) (t : Task) → IsProblem u → IsInside u at → IsWoken u at fresh t → IsTask u t

-- so by their signals and chunks
abbrev pub WokenAreTargets : Type 0
WokenAreTargets =
    (u : Unrolling) (at : InChunk) (fresh : ℕ) → IsProblem u → IsInside u at
    → (wakes_before u.circuit.drivers at.sig at.chunk fresh ≡ true → IsTaskAt u (record { sig = at.sig; chunk = at.chunk - 1 }))
    × All (λ r. IsTaskAt u (record { sig = r; chunk = at.chunk })) (woken_signals u.circuit.drivers at.sig fresh)
