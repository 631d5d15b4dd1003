-- What turns of tasks make of planes and of the tasks that wait.
use Rattle.std.specs.Prelude.{ℕ, ◌≡◌, ◌*◌, ◌-◌, ◌<◌, ◌≤◌, ◌⊎◌, Bool, true, false, IsTrue, IsFalse, List, length, map, slice_index_or}
use Rattle.std.specs.List.{All, Contains}
use Rattle.sr_model.specs.declared.cells.Sig.{Sig}
use Rattle.sr_model.specs.declared.cells.Cell.{Cell}
use Rattle.sr_model.specs.declared.cells.Lit.{Lit}
use Rattle.sr_model.specs.Closure.{Closure, HasBoth, IsWithin, lit}
use Rattle.unroll.specs.declared.problem.Block.{Block}
use Rattle.unroll.specs.declared.problem.InChunk.{InChunk}
use Rattle.unroll.specs.declared.problem.Task.{Task}
use Rattle.unroll.specs.declared.words.PinWord.{PinWord}
use Rattle.unroll.specs.Problem.{Unrolling, IsProblem, IsInside, HaveNoLaterBit, unrolled, signals_in, blocks_in, block_at, block_in, block_of}
use Rattle.unroll.specs.Bits.{is_set, word_for}
use Rattle.unroll.specs.Tasks.{IsCellOf, task_in}
use Rattle.gate_rules.specs.Forced.{AreForcedBy, ForcedIn, IsDone, bit_at_place}
use Rattle.known_planes.specs.Counts.{literal_count}
use Rattle.known_planes.specs.Rows.{row_words_at}
use Rattle.known_planes.specs.Planes.{PlaneSet, IsOf, has, has_bit, lits, words_at}
use Rattle.plain_close.specs.declared.turns.Turned.{Turned}
use Rattle.plain_close.specs.declared.worklist.Worklist.{Worklist}
use Rattle.plain_close.specs.Worklist.{IsWorklistOf, IsSettled, TaskWaits}

-- how many literals the planes may gain at most
abbrev pub missing_of : Unrolling → PlaneSet → ℕ
missing_of u planes = 128 * blocks_in u - literal_count u planes

-- nothing is lost, the mark stays, and each task with a cell whose literals changed waits
pub record Wakes (u : Unrolling) (old new : PlaneSet) (before after : Worklist) : Type 0 where
  pub of : IsOf u new
  pub worklist : IsWorklistOf u after
  pub bits : (b : Block) (bit : Bool) (i : ℕ) → has_bit old b bit i ≡ true → has_bit new b bit i ≡ true
  pub mark : new.mark ≡ old.mark
  pub kept : (t : Task) → TaskWaits u before t → TaskWaits u after t
  pub woken : (t : Task) → TaskWaits u after t ⊎ ((c : Cell) (bit : Bool) → IsCellOf u t c → has u new (lit c bit) ≡ has u old (lit c bit))

-- nothing changed, or there is a literal more
pub record Falls (u : Unrolling) (added : Bool) (old new : PlaneSet) (before after : Worklist) : Type 0 where
  pub no_more : missing_of u new ≤ missing_of u old
  pub fewer : IsTrue added → missing_of u new < missing_of u old
  pub same : IsFalse added → (new ≡ old) × (after ≡ before)

-- a bit of the words that stand beside one of the first n blocks
pub record IsAmong (blocks : List Block) (words : List PinWord) (n : ℕ) (b : Block) (bit : Bool) (i : ℕ) : Type 0 where
  pub index : ℕ
  pub first : index < n
  pub block : slice_index_or blocks index (record { 0 = 0 }) ≡ b
  pub set : bit_at_place words index bit i ≡ true

-- those are in their blocks, and no others are new
pub record JoinsFirst (blocks : List Block) (words : List PinWord) (n : ℕ) (old new : PlaneSet) : Type 0 where
  pub joined : (b : Block) (bit : Bool) (i : ℕ) → IsAmong blocks words n b bit i → has_bit new b bit i ≡ true
  pub only : (b : Block) (bit : Bool) (i : ℕ) → has_bit new b bit i ≡ true → (has_bit old b bit i ≡ true) ⊎ IsAmong blocks words n b bit i

-- what a turn has of its task's blocks: their signals and chunks, their words, and room for what is forced
pub record Sees (u : Unrolling) (planes : PlaneSet) (blocks : List Block) (in_chunks : List InChunk) (view out : List PinWord) : Type 0 where
  pub inside : All (IsInside u) in_chunks
  pub blocks_are : map (block_in u) in_chunks ≡ blocks
  pub view_is : view ≡ map (words_at planes) blocks
  pub out_size : length out ≡ length blocks

-- no cell of the blocks has both literals
abbrev pub HaveNoClash : PlaneSet → List Block → Type 0
HaveNoClash planes blocks = (b : Block) (i : ℕ) → Contains blocks b → has_bit planes b false i ≡ true → has_bit planes b true i ≡ true → ⊥

-- the words are those of the blocks
abbrev pub AreWordsOf : Unrolling → PlaneSet → List InChunk → List PinWord → Type 0
AreWordsOf u planes in_chunks known = known ≡ map (λ at. words_at planes (block_in u at)) in_chunks

-- each literal of the words is in the block
abbrev pub AreInBlock : Unrolling → PlaneSet → InChunk → PinWord → Type 0
AreInBlock u planes at known = (bit : Bool) (i : ℕ) → is_set (word_for bit known) i ≡ true → has_bit planes (block_in u at) bit i ≡ true

-- both literals of bit i are among those of the two words
abbrev pub HasEach : PinWord → PinWord → ℕ → Type 0
HasEach known out i = (bit : Bool) → (is_set (word_for bit known) i ≡ true) ⊎ (is_set (word_for bit out) i ≡ true)

-- what a task forces from the planes, in blocks that have all its cells
pub record AreForced (u : Unrolling) (planes : PlaneSet) (task : InChunk) (in_chunks : List InChunk) (out : List PinWord) : Type 0 where
  pub problem : IsProblem u
  pub inside : All (IsInside u) in_chunks
  pub has_cells : (c : Cell) → IsCellOf u (task_in u task) c → Contains (map (block_in u) in_chunks) (block_of u c)
  pub out_size : length out ≡ length in_chunks
  pub exact : AreForcedBy u (task_in u task) (map (block_in u) in_chunks) (has u planes) out
  pub later : HaveNoLaterBit u (map (block_in u) in_chunks) out

-- what a task forces from the seen literals is added, and nothing else
pub record AddsForced (u : Unrolling) (t : Task) (seen old new : PlaneSet) : Type 0 where
  pub done : (l : Lit) → ForcedIn u t (has u seen) l → has u new l ≡ true
  pub only : (l : Lit) → has u new l ≡ true → (has u old l ≡ true) ⊎ ForcedIn u t (has u seen) l

-- a turn of a task adds what it forces from the old literals
abbrev pub Turns : Unrolling → Task → PlaneSet → PlaneSet → Type 0
Turns u t old new = AddsForced u t old old new

-- a turn of a task that went like this
pub record IsTurn (u : Unrolling) (task : InChunk) (turned : Turned) (old new : PlaneSet) (before after : Worklist) : Type 0 where
  pub wakes : Wakes u old new before after
  pub falls : Falls u turned.added old new before after
  pub turns : Turns u (task_in u task) old new
  pub done : IsFalse turned.again → IsDone u (task_in u task) (has u new)
  pub nothing : IsFalse turned.added → IsFalse turned.again
  pub clash : IsTrue turned.clash → (c : Cell) × HasBoth (lits u new) c

-- whether something was added, and then: whether a cell of the blocks has both literals, and whether the task may force more
pub record IsOutcome (u : Unrolling) (planes : PlaneSet) (blocks : List Block) (added own_pin : Bool) (turned : Turned) : Type 0 where
  pub added_is : turned.added ≡ added
  pub nothing : IsFalse turned.added → IsFalse turned.again
  pub no_more : IsFalse turned.again → IsTrue turned.added → IsFalse own_pin × HaveNoClash planes blocks
  pub clash : IsTrue turned.clash → (c : Cell) × HasBoth (lits u planes) c

-- after some turns: nothing is lost, and all is in the closure
pub record Between (u : Unrolling) (old new : PlaneSet) (after : Worklist) : Type 0 where
  pub of : IsOf u new
  pub worklist : IsWorklistOf u after
  pub settled : IsSettled u new after
  pub kept : IsWithin (lits u old) (lits u new)
  pub mark : new.mark ≡ old.mark
  pub in_closure : IsWithin (lits u new) (Closure (unrolled u) (lits u old))
  pub no_more : missing_of u new ≤ missing_of u old

-- the other planes' bits of the first signals in a chunk are there, and no others are new than theirs
pub record AddsChunk (u : Unrolling) (other : PlaneSet) (chunk signals : ℕ) (old new : PlaneSet) : Type 0 where
  pub joined : (s : Sig) (bit : Bool) (i : ℕ) → s.0 < signals → has_bit other (block_at u s chunk) bit i ≡ true → has_bit new (block_at u s chunk) bit i ≡ true
  pub only : (b : Block) (bit : Bool) (i : ℕ) → has_bit new b bit i ≡ true → (has_bit old b bit i ≡ true) ⊎ (has_bit other b bit i ≡ true)

-- and so in the first chunks
pub record Adds (u : Unrolling) (other : PlaneSet) (chunks : ℕ) (old new : PlaneSet) : Type 0 where
  pub joined : (s : Sig) (chunk : ℕ) (bit : Bool) (i : ℕ) → s.0 < signals_in u → chunk < chunks → has_bit other (block_at u s chunk) bit i ≡ true → has_bit new (block_at u s chunk) bit i ≡ true
  pub only : (b : Block) (bit : Bool) (i : ℕ) → has_bit new b bit i ≡ true → (has_bit old b bit i ≡ true) ⊎ (has_bit other b bit i ≡ true)

-- the literals of a signal's words in the first chunks are there, and no others are new than theirs
pub record AddsRow (u : Unrolling) (s : Sig) (row : List PinWord) (chunks : ℕ) (old new : PlaneSet) : Type 0 where
  pub joined : (chunk : ℕ) (bit : Bool) (i : ℕ) → chunk < chunks → is_set (word_for bit (row_words_at row chunk)) i ≡ true → has_bit new (block_at u s chunk) bit i ≡ true
  pub only : (b : Block) (bit : Bool) (i : ℕ) → has_bit new b bit i ≡ true
      → (has_bit old b bit i ≡ true) ⊎ ((chunk : ℕ) × (chunk < chunks) × (b ≡ block_at u s chunk) × (is_set (word_for bit (row_words_at row chunk)) i ≡ true))
