-- Tasks: a gate or flip-flop in a chunk, its blocks, and the tasks that a block is in.
use Rattle.std.specs.Prelude.{ℕ, ◌≡◌, ◌+◌, ◌-◌, ◌<◌, ◌/◌, ◌==◌, ◌&&◌, ◌++◌, ◌∷◌, [], ◌||◌, ◌⊎◌, Bool, true, false, not, nat_le, nat_lt, if◌then◌else◌, List, map, Some}
use Rattle.std.specs.List.{Contains, flat_map, list_all, range_with_len}
use Rattle.sr_model.specs.declared.gates.Kind.{Kind}
use Rattle.sr_model.specs.declared.gates.Family.{Family}
use Rattle.sr_model.specs.declared.gates.Family.TheVariants.{AndLike, Parity}
use Rattle.sr_model.specs.declared.cells.Sig.{Sig}
use Rattle.sr_model.specs.declared.cells.Cell.{Cell}
use Rattle.sr_model.specs.declared.cells.Place.{Place}
use Rattle.sr_model.specs.Gate.{family_of}
use Rattle.sr_model.specs.Netlist.{Driver, Input, Driven, Instance, instance_at, cell_at, cells_of, delay}
use Rattle.netlist.specs.Wiring.{driver_at, reads, is_driven, is_flip_flop, signals_of, signals_below, other_readers, is_odd_pin}
use Rattle.unroll.specs.declared.problem.Block.{Block}
use Rattle.unroll.specs.declared.problem.InChunk.{InChunk}
use Rattle.unroll.specs.declared.problem.Task.{Task}
use Rattle.unroll.specs.Problem.{Unrolling, unrolled, signals_in, chunks_in, blocks_in, block_at, sig_at, chunk_at, is_target}

-- a task has the number of the block of its target
abbrev pub target_block : Task → Block
target_block t = record { 0 = t.0 }

abbrev pub task_at : Unrolling → Sig → ℕ → Task
task_at u s chunk = record { 0 = (block_at u s chunk).0 }

abbrev pub task_in : Unrolling → InChunk → Task
task_in u at = task_at u at.sig at.chunk

abbrev pub target_of : Unrolling → Task → Sig
target_of u t = sig_at u (target_block t)

abbrev pub chunk_of : Unrolling → Task → ℕ
chunk_of u t = chunk_at u (target_block t)

-- it is a gate or flip-flop in a chunk
abbrev pub IsTask : Unrolling → Task → Type 0
IsTask u t = (t.0 < blocks_in u) × (is_target u (target_block t) ≡ true)

-- a gate or flip-flop drives the signal, and there is the chunk
pub record IsTaskAt (u : Unrolling) (at : InChunk) : Type 0 where
  pub signal : at.sig.0 < signals_in u
  pub early : at.chunk < chunks_in u
  pub driven : is_driven (driver_at u.circuit.drivers at.sig.0) ≡ true

-- the task that the instance at a place is of: the target's, in the chunk of the place's cycle
abbrev pub task_of : Unrolling → Place → Task
task_of u p = task_at u p.target (p.cycle / 64)

-- a task stands for the instances of its target in the cycles of its chunk
abbrev pub IsPlaceOf : Unrolling → Task → Place → Type 0
IsPlaceOf u t p = (target_of u t ≡ p.target) × (chunk_of u t ≡ p.cycle / 64)

-- the cell is one of an instance of the task
pub record IsCellOf (u : Unrolling) (t : Task) (c : Cell) : Type 0 where
  pub place : Place
  pub belongs : IsPlaceOf u t place
  pub instance : Instance
  pub stands : instance_at (unrolled u) place ≡ Some instance
  pub has_cell : Contains (cells_of instance) c

-- the part of a cell in the instance at a place: it is the target's, or that of a pin
pub record CellRole (u : Unrolling) (p : Place) (c : Cell) : Type 0 where
  pub kind : Kind
  pub pins : List Sig
  pub driver : driver_at u.circuit.drivers p.target.0 ≡ Driven kind pins
  pub in_time : p.cycle + delay kind < u.cycles
  pub which : (c ≡ cell_at (p.cycle + delay kind) p.target) ⊎ ((pin : Sig) × Contains pins pin × (c ≡ cell_at p.cycle pin))

-- the signal is that of a flip-flop that is its own data pin
abbrev pub drives_itself : Unrolling → Sig → Bool
drives_itself u s = is_flip_flop (driver_at u.circuit.drivers s.0) && reads (driver_at u.circuit.drivers s.0) s

-- how many cycles the target's cell is after the pins'
abbrev pub delay_of : Driver → ℕ
delay_of Input = 0
delay_of (Driven kind pins) = delay kind

-- whether the cell is that of a pin in a cycle of the chunk, where the target's is in time
abbrev pub is_pin_cell : Unrolling → Sig → ℕ → Cell → Bool
is_pin_cell u target chunk c =
    let driver = driver_at u.circuit.drivers target.0 in
    reads driver c.sig && (c.cycle / 64 == chunk) && nat_lt (c.cycle + delay_of driver) u.cycles

-- whether it is that of the target in time, so much after a cycle of the chunk
abbrev pub is_target_cell : Unrolling → Sig → ℕ → Cell → Bool
is_target_cell u target chunk c =
    let driver = driver_at u.circuit.drivers target.0 in
    is_driven driver && (c.sig.0 == target.0) && nat_le (delay_of driver) c.cycle && ((c.cycle - delay_of driver) / 64 == chunk) && nat_lt c.cycle u.cycles

-- whether the cell is one of an instance of the task; a bit of a block is, where its cell (`cell_of`) is
abbrev pub has_cell : Unrolling → Task → Cell → Bool
has_cell u t c = is_pin_cell u (target_of u t) (chunk_of u t) c || is_target_cell u (target_of u t) (chunk_of u t) c

-- a flip-flop's target goes on in the next chunk, if there is one
abbrev pub goes_on_from : Unrolling → Sig → ℕ → Bool
goes_on_from u target chunk = is_flip_flop (driver_at u.circuit.drivers target.0) && nat_lt (chunk + 1) (chunks_in u)

-- the blocks of a signal of the gate or flip-flop that drives the target: the one in the chunk, and of a flip-flop's target the one in the next chunk
abbrev pub blocks_for : Unrolling → Sig → ℕ → Sig → List Block
blocks_for u target chunk s = block_at u s chunk ∷ (if (s.0 == target.0) && goes_on_from u target chunk then block_at u s (chunk + 1) ∷ [] else [])

-- the blocks of a gate or flip-flop in a chunk, ascending
abbrev pub blocks_from : Unrolling → Sig → ℕ → List Block
blocks_from u target chunk = flat_map (blocks_for u target chunk) (signals_of u.circuit.drivers target)

abbrev pub blocks_of : Unrolling → Task → List Block
blocks_of u t = blocks_from u (target_of u t) (chunk_of u t)

-- the tasks of a driven signal itself that a block is in: a flip-flop's task in the chunk before, where there is one, and its task in the chunk
abbrev pub own_tasks : Unrolling → Driver → Sig → ℕ → List Task
own_tasks u Input s chunk = []
own_tasks u (Driven kind pins) s chunk =
    (if is_flip_flop (Driven kind pins) && nat_lt 0 chunk then task_at u s (chunk - 1) ∷ [] else []) ++ task_at u s chunk ∷ []

-- the tasks that a block is in: those of its own signal, and that of each other reader in the chunk, ascending
abbrev pub adjacent_from : Unrolling → Sig → ℕ → List Task
adjacent_from u s chunk = own_tasks u (driver_at u.circuit.drivers s.0) s chunk ++ map (λ r. task_at u r chunk) (other_readers u.circuit.drivers s)

abbrev pub adjacent_tasks : Unrolling → Block → List Task
adjacent_tasks u b = adjacent_from u (sig_at u b) (chunk_at u b)

-- its target has the parity of its pins, or the other bit
abbrev pub is_parity : Family → Bool
is_parity (Parity inverted) = true
is_parity (AndLike pins target) = false

-- a parity gate in which each signal stands an even number of times
abbrev pub is_constant : Driver → Bool
is_constant Input = false
is_constant (Driven kind pins) = is_parity (family_of kind) && list_all (λ pin. not (is_odd_pin (Driven kind pins) pin)) pins

-- the tasks of a target, ascending
abbrev pub tasks_at : Unrolling → Sig → List Task
tasks_at u s = map (task_at u s) (range_with_len 0 (chunks_in u))

-- and so where it is that of a constant gate
abbrev pub constant_tasks_at : Unrolling → Sig → List Task
constant_tasks_at u s = if is_constant (driver_at u.circuit.drivers s.0) then tasks_at u s else []

-- the tasks of the constant gates, ascending
abbrev pub constant_tasks : Unrolling → List Task
constant_tasks u = flat_map (constant_tasks_at u) (signals_below (signals_in u))
