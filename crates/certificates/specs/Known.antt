-- What a checker knows so far, and what it sees at one place.
use Rattle.std.specs.Prelude.{ℕ, ◌≡◌, ◌<◌, ◌≤◌, ⊤, Bool, false, List, length, map, IsSome, slice_index_or}
use Rattle.std.specs.List.{Contains}
use Rattle.sr_model.specs.declared.cells.Cell.{Cell}
use Rattle.sr_model.specs.declared.cells.Lit.{Lit}
use Rattle.sr_model.specs.Limits.{max_gate_signals}
use Rattle.sr_model.specs.Netlist.{instance_at}
use Rattle.unroll.specs.declared.problem.Block.{Block}
use Rattle.unroll.specs.declared.problem.InChunk.{InChunk}
use Rattle.unroll.specs.declared.words.PinWord.{PinWord}
use Rattle.unroll.specs.Problem.{Unrolling, IsProblem, unrolled, signals_in, block_of, bit_of}
use Rattle.unroll.specs.Tasks.{blocks_from}
use Rattle.gate_rules.specs.Forced.{bit_at_place}
use Rattle.known_planes.specs.Planes.{IsOf, words_at}
use Rattle.certificates.specs.declared.claim.Claim.{Claim}
use Rattle.certificates.specs.declared.claim.Claim.TheVariants.{Forced, End, Contradiction}
use Rattle.certificates.specs.declared.known.Known.{Known}

-- it is a problem, the planes are its own, and there is room for the blocks of any task
pub record IsKept (u : Unrolling) (known : Known) : Type 0 where
  pub problem : IsProblem u
  pub of : IsOf u known.planes
  pub room : max_gate_signals ≤ known.blocks.room

-- the cell's signal and cycle are there
pub record IsCellIn (u : Unrolling) (cell : Cell) : Type 0 where
  pub signal : cell.sig.0 < signals_in u
  pub early : cell.cycle < u.cycles

-- what a claim names is there
abbrev pub IsThere : Unrolling → Claim → Type 0
IsThere u (Forced fact) = IsCellIn u fact.lit.cell × IsSome (instance_at (unrolled u) fact.place)
IsThere u End = ⊤
IsThere u (Contradiction cell) = IsCellIn u cell

-- the blocks are those of the task, and beside each stand its words and room for what is forced
pub record Sees (u : Unrolling) (task : InChunk) (known : Known) : Type 0 where
  pub blocks : known.blocks.items ≡ blocks_from u task.sig task.chunk
  pub view : known.view.items ≡ map (words_at known.planes) known.blocks.items
  pub out : length known.out.items ≡ length known.blocks.items

-- the answer is the bit of the literal in the words at its block's place, or no where its block is none of these
pub data IsAnswer (u : Unrolling) (blocks : List Block) (words : List PinWord) (l : Lit) : Bool → Type 0 where
  listed : (j : ℕ) → j < length blocks → slice_index_or blocks j (record { 0 = 0 }) ≡ block_of u l.cell → IsAnswer u blocks words l (bit_at_place words j l.bit (bit_of l.cell))
  absent : (Contains blocks (block_of u l.cell) → ⊥) → IsAnswer u blocks words l false
