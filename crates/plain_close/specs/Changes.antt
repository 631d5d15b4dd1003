-- Changes: new literals that are listed by chunk before they are added.
use Rattle.std.specs.Prelude.{ℕ, ◌≡◌, ◌≢◌, ◌<◌, ◌/◌, ◌⊎◌, ◌&&◌, [], Bool, not, true, IsTrue, IsFalse, List, length, slice_index_or}
use Rattle.std.specs.List.{Contains}
use Rattle.sr_model.specs.declared.cells.Sig.{Sig}
use Rattle.sr_model.specs.declared.cells.Cell.{Cell}
use Rattle.sr_model.specs.declared.cells.Lit.{Lit}
use Rattle.sr_model.specs.Closure.{HasBoth, lit}
use Rattle.sr_model.specs.Room.{WithRoom}
use Rattle.unroll.specs.declared.problem.Block.{Block}
use Rattle.unroll.specs.declared.problem.InChunk.{InChunk}
use Rattle.unroll.specs.declared.words.PinWord.{PinWord}
use Rattle.unroll.specs.declared.problem.Task.{Task}
use Rattle.unroll.specs.Bits.{is_set, word_for}
use Rattle.unroll.specs.Problem.{Unrolling, HasNoLaterBit, IsInside, block_at, bit_of, cell_of, chunk_at, sig_at}
use Rattle.unroll.specs.Tasks.{IsCellOf, IsTask, IsTaskAt, chunk_of, target_of, task_at}
use Rattle.unroll.specs.Waiting.{Waits}
use Rattle.gate_rules.specs.Forced.{ForcedIn, bit_at_place}
use Rattle.known_planes.specs.Counts.{literal_count}
use Rattle.known_planes.specs.Planes.{PlaneSet, IsOf, Joins, has, has_bit, lits}
use Rattle.plain_close.specs.declared.changes.Change.{Change}
use Rattle.plain_close.specs.declared.changes.Added.{Added}
use Rattle.plain_close.specs.declared.worklist.Worklist.{Worklist}
use Rattle.plain_close.specs.Worklist.{IsWorklistOf, TaskWaits}

-- the changes that are listed for a chunk
abbrev pub changes_in : List (WithRoom Change) → ℕ → List Change
changes_in lists chunk = (slice_index_or lists chunk (record { items = []; room = 0 })).items

-- a change of a block of the chunk
pub record IsChange (u : Unrolling) (chunk : ℕ) (change : Change) : Type 0 where
  pub inside : IsInside u (record { sig = change.sig; chunk = chunk })
  pub no_later : HasNoLaterBit u.cycles chunk change.words

-- one of them has the literal
pub record HasChange (changes : List Change) (l : Lit) : Type 0 where
  pub change : Change
  pub listed : Contains changes change
  pub signal : change.sig ≡ l.cell.sig
  pub set : is_set (word_for l.bit change.words) (bit_of l.cell) ≡ true

-- one that is listed for its chunk has it
abbrev pub IsListed : List (WithRoom Change) → Lit → Type 0
IsListed lists l = HasChange (changes_in lists (l.cell.cycle / 64)) l

-- one whose cause is this signal
abbrev pub IsListedBy : List (WithRoom Change) → Sig → Lit → Type 0
IsListedBy lists cause l = (h : IsListed lists l) × (h.change.cause ≡ cause)

-- whatever is added of what the task forces, it forces no more
abbrev pub IsCalm : Unrolling → Task → (Lit → Bool) → Type 0
IsCalm u t known =
    (more : Lit → Bool) → ((c : Cell) (bit : Bool) → IsCellOf u t c → more (lit c bit) ≡ true → (known (lit c bit) ≡ true) ⊎ ForcedIn u t known (lit c bit))
    → (l : Lit) → ForcedIn u t more l → (known l ≡ true) ⊎ ForcedIn u t known l

-- a task of the chunk forces all that the change, which is of a block of that chunk, has; and it forces no more
pub record IsOwnChange (u : Unrolling) (known : Lit → Bool) (chunk : ℕ) (change : Change) : Type 0 where
  pub task : IsTaskAt u (record { sig = change.cause; chunk = chunk })
  pub forced : (bit : Bool) (i : ℕ) → i < 64 → is_set (word_for bit change.words) i ≡ true → ForcedIn u (task_at u change.cause chunk) known (lit (cell_of u (block_at u change.sig chunk) i) bit)
  pub calm : IsCalm u (task_at u change.cause chunk) known

-- the task of its cause in the chunk forces all that a new change has, and none of it is known
pub record IsForcedChange (u : Unrolling) (known : Lit → Bool) (chunk at : ℕ) (change : Change) : Type 0 where
  pub is : IsChange u at change
  pub task : IsTaskAt u (record { sig = change.cause; chunk = chunk })
  pub forced : (bit : Bool) (i : ℕ) → i < 64 → is_set (word_for bit change.words) i ≡ true → ForcedIn u (task_at u change.cause chunk) known (lit (cell_of u (block_at u change.sig at) i) bit)
  pub unknown : (bit : Bool) (i : ℕ) → i < 64 → is_set (word_for bit change.words) i ≡ true → IsFalse (known (lit (cell_of u (block_at u change.sig at) i) bit))
  pub own : IsFalse change.again → (at ≡ chunk) × IsOwnChange u known chunk change

-- no change is lost
abbrev pub AreKept : List (WithRoom Change) → List (WithRoom Change) → Type 0
AreKept old new = (at : ℕ) (change : Change) → Contains (changes_in old at) change → Contains (changes_in new at) change

-- what a task of the chunk forces from the planes is listed with its signal as the cause, where it is not known
pub record ForcesTask (u : Unrolling) (planes : PlaneSet) (task : InChunk) (old new : List (WithRoom Change)) : Type 0 where
  pub size : length new ≡ length old
  pub kept : AreKept old new
  pub only : (at : ℕ) (change : Change) → Contains (changes_in new at) change → Contains (changes_in old at) change ⊎ IsForcedChange u (has u planes) task.chunk at change
  pub all : (l : Lit) → ForcedIn u (task_at u task.sig task.chunk) (has u planes) l → (has u planes l ≡ true) ⊎ IsListedBy new task.sig l

-- what the waiting tasks of the chunk force is; none of them waits any more
pub record ForcesChunk (u : Unrolling) (planes : PlaneSet) (chunk : ℕ) (before after : Worklist) (old new : List (WithRoom Change)) : Type 0 where
  pub worklist : IsWorklistOf u after
  pub none : (s : Sig) → Waits after.waiting s chunk → ⊥
  pub others : (t : Task) → chunk_of u t ≢ chunk → TaskWaits u before t → TaskWaits u after t
  pub size : length new ≡ length old
  pub kept : AreKept old new
  pub only : (at : ℕ) (change : Change) → Contains (changes_in new at) change → Contains (changes_in old at) change ⊎ IsForcedChange u (has u planes) chunk at change
  pub all : (t : Task) → IsTask u t → chunk_of u t ≡ chunk → TaskWaits u before t → (l : Lit) → ForcedIn u t (has u planes) l → (has u planes l ≡ true) ⊎ IsListedBy new (target_of u t) l

-- where the task does not wait, nothing of its cells has changed, or only what it forces itself
abbrev pub IsQuiet : Unrolling → ℕ → Task → PlaneSet → PlaneSet → Worklist → Type 0
IsQuiet u chunk t old new q =
    TaskWaits u q t ⊎ ((c : Cell) (bit : Bool) → IsCellOf u t c → has u new (lit c bit) ≡ has u old (lit c bit))
    ⊎ ((chunk_of u t ≡ chunk) × IsCalm u t (has u old)
    × ((c : Cell) (bit : Bool) → IsCellOf u t c → has u new (lit c bit) ≡ true → (has u old (lit c bit) ≡ true) ⊎ ForcedIn u t (has u old) (lit c bit)))

-- changes of blocks of a chunk were added to planes, and the tasks wait that may force more
pub record AddsChanges (u : Unrolling) (chunk : ℕ) (changes : List Change) (added : Added) (old new : PlaneSet) (before after : Worklist) : Type 0 where
  pub of : IsOf u new
  pub worklist : IsWorklistOf u after
  pub bits : (l : Lit) → has u old l ≡ true → has u new l ≡ true
  pub joined : (l : Lit) → l.cell.cycle < u.cycles → l.cell.cycle / 64 ≡ chunk → HasChange changes l → has u new l ≡ true
  pub only : (l : Lit) → has u new l ≡ true → (has u old l ≡ true) ⊎ ((l.cell.cycle / 64 ≡ chunk) × HasChange changes l)
  pub kept : (t : Task) → TaskWaits u before t → TaskWaits u after t
  pub quiet : (t : Task) → IsQuiet u chunk t old new after
  pub same : IsFalse added.some → new ≡ old
  pub more : IsTrue added.some → literal_count u old < literal_count u new
  pub clash : IsFalse added.clash → (c : Cell) → HasBoth (lits u new) c → HasBoth (lits u old) c

-- One change was added to planes. A task waits where its cells have changed, but not the one that forces the change itself.
pub record AddsChange (u : Unrolling) (chunk : ℕ) (change : Change) (earlier added : Added) (old new : PlaneSet) (before after : Worklist) : Type 0 where
  pub of : IsOf u new
  pub worklist : IsWorklistOf u after
  pub joins : Joins (block_at u change.sig chunk) change.words old new
  pub kept : (t : Task) → TaskWaits u before t → TaskWaits u after t
  pub woken : (t : Task) → TaskWaits u after t ⊎ ((c : Cell) (bit : Bool) → IsCellOf u t c → has u new (lit c bit) ≡ has u old (lit c bit))
      ⊎ (IsFalse change.again × (t ≡ task_at u change.cause chunk))
  pub some : ((new ≡ old) × (added ≡ earlier)) ⊎ (IsTrue added.some × (literal_count u old < literal_count u new))
  pub clash : IsFalse added.clash → IsFalse earlier.clash × ((c : Cell) → HasBoth (lits u new) c → HasBoth (lits u old) c)

-- the planes have all literals of the words that stand beside these blocks
abbrev pub AreKnown : PlaneSet → List Block → List PinWord → Type 0
AreKnown planes blocks words = (j i : ℕ) (bit : Bool) → j < length blocks → i < 64 → bit_at_place words j bit i ≡ true → has_bit planes (slice_index_or blocks j (record { 0 = 0 })) bit i ≡ true

-- no cell of the blocks has both literals with those of the words
abbrev pub HaveNoClashWith : PlaneSet → List Block → List PinWord → Type 0
HaveNoClashWith planes blocks words =
    (j i : ℕ) → j < length blocks → i < 64
    → ((bit : Bool) → (has_bit planes (slice_index_or blocks j (record { 0 = 0 })) bit i ≡ true) ⊎ (bit_at_place words j bit i ≡ true)) → ⊥

-- what of the words of a block is not known is a change that is listed for the block's chunk, and so far no other is new
pub record IsNewChange (u : Unrolling) (planes : PlaneSet) (task : InChunk) (again : Bool) (blocks : List Block) (words : List PinWord) (at : ℕ) (change : Change) : Type 0 where
  pub index : ℕ
  pub within : index < length blocks
  pub block : slice_index_or blocks index (record { 0 = 0 }) ≡ block_at u change.sig at
  pub inside : IsInside u (record { sig = change.sig; chunk = at })
  pub set : (bit : Bool) (i : ℕ) → i < 64 → is_set (word_for bit change.words) i ≡ (bit_at_place words index bit i && not (has_bit planes (block_at u change.sig at) bit i))
  pub cause : change.cause ≡ task.sig
  pub own : IsFalse change.again → IsFalse again × (at ≡ task.chunk)

pub record ListsNew (u : Unrolling) (planes : PlaneSet) (task : InChunk) (again : Bool) (blocks : List Block) (words : List PinWord) (old new : List (WithRoom Change)) : Type 0 where
  pub size : length new ≡ length old
  pub kept : AreKept old new
  pub only : (at : ℕ) (change : Change) → Contains (changes_in new at) change → Contains (changes_in old at) change ⊎ IsNewChange u planes task again blocks words at change
  pub all : (j i : ℕ) (bit : Bool) → j < length blocks → i < 64 → bit_at_place words j bit i ≡ true
      → (has_bit planes (slice_index_or blocks j (record { 0 = 0 })) bit i ≡ true)
      ⊎ ((change : Change) × Contains (changes_in new (chunk_at u (slice_index_or blocks j (record { 0 = 0 })))) change × (change.sig ≡ sig_at u (slice_index_or blocks j (record { 0 = 0 }))) × (is_set (word_for bit change.words) i ≡ true)
      × (change.cause ≡ task.sig))
