-- A netlist over a number of cycles, in blocks of 64 cycles.
use Rattle.std.specs.Prelude.{ℕ, ◌+◌, ◌*◌, ◌/◌, ◌%◌, ◌<◌, ◌≤◌, Bool, IsTrue, List, length, slice_index_or}
use Rattle.sr_model.specs.declared.cells.Cell.{Cell}
use Rattle.sr_model.specs.declared.cells.Sig.{Sig}
use Rattle.sr_model.specs.Limits.{max_cycles, max_blocks, chunk_count, block_count}
use Rattle.sr_model.specs.Netlist.{Driver, Unrolled}
use Rattle.netlist.specs.Circuit.{Circuit, IsCircuit, unrolled_over}
use Rattle.netlist.specs.Wiring.{driver_at, is_driven}
use Rattle.unroll.specs.declared.problem.Block.{Block}
use Rattle.unroll.specs.declared.problem.InChunk.{InChunk}
use Rattle.unroll.specs.declared.words.PinWord.{PinWord}
use Rattle.unroll.specs.Bits.{is_set, is_cycle, word_for, no_words}

-- what contracts see of a problem
pub record Unrolling : Type 0 where
  pub circuit : Circuit
  pub cycles : ℕ

-- the netlist over its cycles, of which the definitions speak
abbrev pub unrolled : Unrolling → Unrolled
unrolled u = unrolled_over u.circuit u.cycles

abbrev pub signals_in : Unrolling → ℕ
signals_in u = length u.circuit.drivers

abbrev pub chunks_in : Unrolling → ℕ
chunks_in u = chunk_count u.cycles

abbrev pub blocks_in : Unrolling → ℕ
blocks_in u = block_count (signals_in u) u.cycles

-- what every problem keeps
pub record IsProblem (u : Unrolling) : Type 0 where
  pub is_circuit : IsCircuit u.circuit
  pub some_cycles : 1 ≤ u.cycles
  pub few_cycles : u.cycles ≤ max_cycles
  pub few_blocks : blocks_in u ≤ max_blocks

-- the block of a signal in a chunk: blocks go by signal and then by chunk
abbrev pub block_at : Unrolling → Sig → ℕ → Block
block_at u s chunk = record { 0 = s.0 * chunks_in u + chunk }

-- a block's signal and chunk
abbrev pub sig_at : Unrolling → Block → Sig
sig_at u b = record { 0 = b.0 / chunks_in u }

abbrev pub chunk_at : Unrolling → Block → ℕ
chunk_at u b = b.0 % chunks_in u

-- the block that has a cell, and the cell's bit in the block's words
abbrev pub block_of : Unrolling → Cell → Block
block_of u c = block_at u c.sig (c.cycle / 64)

abbrev pub bit_of : Cell → ℕ
bit_of c = c.cycle % 64

-- the cell of a bit
abbrev pub cell_of : Unrolling → Block → ℕ → Cell
cell_of u b i = record { cycle = 64 * chunk_at u b + i; sig = sig_at u b }

-- the block of a signal in a chunk
abbrev pub block_in : Unrolling → InChunk → Block
block_in u at = block_at u at.sig at.chunk

-- signal and chunk are there
abbrev pub IsInside : Unrolling → InChunk → Type 0
IsInside u at = (at.sig.0 < signals_in u) × (at.chunk < chunks_in u)

-- what drives a block's signal
abbrev pub driver_in : Unrolling → Block → Driver
driver_in u b = driver_at u.circuit.drivers (sig_at u b).0

-- whether a gate or flip-flop drives the block's signal
abbrev pub is_target : Unrolling → Block → Bool
is_target u b = is_driven (driver_in u b)

-- the words of a block in the chunk have no bit of a cycle past the last of so many
abbrev pub HasNoLaterBit : ℕ → ℕ → PinWord → Type 0
HasNoLaterBit cycles chunk words = (bit : Bool) (i : ℕ) → i < 64 → IsTrue (is_set (word_for bit words) i) → IsTrue (is_cycle cycles chunk i)

-- nor have the words that stand beside any of these blocks
abbrev pub HaveNoLaterBit : Unrolling → List Block → List PinWord → Type 0
HaveNoLaterBit u blocks words =
    (j : ℕ) → j < length blocks
    → HasNoLaterBit u.cycles (chunk_at u (slice_index_or blocks j (record { 0 = 0 }))) (slice_index_or words j no_words)
