-- A set of literals in two words for each block.
use Rattle.std.specs.Prelude.{ℕ, ◌≡◌, ◌<◌, ◌+◌, ◌*◌, ◌&&◌, ◌||◌, ◌⊎◌, Bool, true, false, not, IsTrue, IsFalse, List, Option, None, Some, length, nat_lt, slice_index_or, slice_set}
use Rattle.sr_model.specs.declared.cells.Lit.{Lit}
use Rattle.sr_model.specs.Closure.{IsWithin, passing}
use Rattle.unroll.specs.declared.problem.Block.{Block}
use Rattle.unroll.specs.declared.words.PinWord.{PinWord}
use Rattle.unroll.specs.Bits.{is_set, word_for, no_words}
use Rattle.unroll.specs.Problem.{Unrolling, HasNoLaterBit, signals_in, chunks_in, blocks_in, block_of, chunk_at, bit_of}
use Rattle.known_planes.specs.declared.planes.Seen.{Seen}
use Rattle.known_planes.specs.declared.planes.Seen.TheVariants.{Zero, One, Unknown, Both}

-- what contracts see of planes: over how many signals and chunks they are, the two words of each block by its number, and those that they go back to, if there is a mark
pub record PlaneSet : Type 0 where
  pub signals : ℕ
  pub chunks : ℕ
  pub words : List PinWord
  pub mark : Option (List PinWord)

-- the words of a block
abbrev pub words_at : PlaneSet → Block → PinWord
words_at planes b = slice_index_or planes.words b.0 no_words

-- the words of a signal in a chunk
abbrev pub pair_in : PlaneSet → ℕ → ℕ → PinWord
pair_in planes s chunk = slice_index_or planes.words (s * planes.chunks + chunk) no_words

-- the same planes, but for these words of a block
abbrev pub with_words : PlaneSet → Block → PinWord → PlaneSet
with_words planes b w = record { signals = planes.signals; chunks = planes.chunks; words = slice_set planes.words b.0 w; mark = planes.mark }

-- the same words, with the mark at them
abbrev pub with_mark : PlaneSet → PlaneSet
with_mark planes = record { signals = planes.signals; chunks = planes.chunks; words = planes.words; mark = Some planes.words }

-- the same words, with no mark
abbrev pub without_mark : PlaneSet → PlaneSet
without_mark planes = record { signals = planes.signals; chunks = planes.chunks; words = planes.words; mark = None }

-- with the words of a mark, which stays at them
abbrev pub back_at : PlaneSet → List PinWord → PlaneSet
back_at planes words = record { signals = planes.signals; chunks = planes.chunks; words = words; mark = Some words }

-- whether the planes have a bit of a block
abbrev pub has_bit : PlaneSet → Block → Bool → ℕ → Bool
has_bit planes b bit i = is_set (word_for bit (words_at planes b)) i

-- whether the planes have the literal
abbrev pub has : Unrolling → PlaneSet → Lit → Bool
has u planes l = nat_lt l.cell.cycle u.cycles && has_bit planes (block_of u l.cell) l.bit (bit_of l.cell)

-- the literals of the planes
abbrev pub lits : Unrolling → PlaneSet → Lit → Type 0
lits u planes = passing (has u planes)

-- the planes are over the blocks of the problem, and have no bit of a later cycle
pub record IsOf (u : Unrolling) (planes : PlaneSet) : Type 0 where
  pub signals : planes.signals ≡ signals_in u
  pub chunks : planes.chunks ≡ chunks_in u
  pub blocks : length planes.words ≡ blocks_in u
  pub no_later : (b : Block) → b.0 < blocks_in u → HasNoLaterBit u.cycles (chunk_at u b) (words_at planes b)

-- there is a mark, and what the planes go back to is of the problem and has no literal that they do not have
pub record IsMarked (u : Unrolling) (planes : PlaneSet) : Type 0 where
  pub words : List PinWord
  pub mark : planes.mark ≡ Some words
  pub of : IsOf u (back_at planes words)
  pub within : IsWithin (lits u (back_at planes words)) (lits u planes)

-- what is seen of a cell, by whether its literals 0 and 1 are there
abbrev pub seen_of : Bool → Bool → Seen
seen_of false false = Unknown
seen_of true false = Zero
seen_of false true = One
seen_of true true = Both

-- no bit is lost, those of the words are in the block, no others are new, and a mark stays
pub record Joins (b : Block) (w : PinWord) (old new : PlaneSet) : Type 0 where
  pub kept : (a : Block) (bit : Bool) (i : ℕ) → has_bit old a bit i ≡ true → has_bit new a bit i ≡ true
  pub joined : (bit : Bool) (i : ℕ) → is_set (word_for bit w) i ≡ true → has_bit new b bit i ≡ true
  pub only : (a : Block) (bit : Bool) (i : ℕ) → has_bit new a bit i ≡ true → (has_bit old a bit i ≡ true) ⊎ ((a ≡ b) × (is_set (word_for bit w) i ≡ true))
  pub mark : new.mark ≡ old.mark

-- whether the words have, for some bit, the literal of bit i that the planes do not have in the block
abbrev pub is_new : PlaneSet → Block → PinWord → ℕ → Bool
is_new planes b w i = (is_set w.zero i && not (has_bit planes b false i)) || (is_set w.one i && not (has_bit planes b true i))

-- a literal of the words of a block that the planes do not have
pub record IsNewIn (u : Unrolling) (planes : PlaneSet) (b : Block) (w : PinWord) (l : Lit) : Type 0 where
  pub in_block : block_of u l.cell ≡ b
  pub in_time : l.cell.cycle < u.cycles
  pub unknown : IsFalse (has u planes l)
  pub listed : IsTrue (is_set (word_for l.bit w) (bit_of l.cell))
