-- The laws of planes, for every problem.
use Rattle.std.specs.Prelude.{ℕ, ◌≡◌, ◌≢◌, ◌<◌, ◌≤◌, ◌*◌, Bool, List, IsTrue, IsFalse}
use Rattle.std.specs.List.{sum_by}
use Rattle.sr_model.specs.declared.cells.Lit.{Lit}
use Rattle.sr_model.specs.Closure.{IsWithin, lit}
use Rattle.unroll.specs.declared.problem.Block.{Block}
use Rattle.unroll.specs.declared.words.PinWord.{PinWord}
use Rattle.unroll.specs.Bits.{is_set, word_for}
use Rattle.unroll.specs.Problem.{Unrolling, IsProblem, signals_in, blocks_in, block_of, cell_of, bit_of}
use Rattle.known_planes.specs.Planes.{PlaneSet, IsOf, has, lits, words_at, with_words}
use Rattle.known_planes.specs.WordLists.{ListsWords}
use Rattle.known_planes.specs.Counts.{bits_of_both, literal_count}

-- the bits of a block's words are the literals of its cells
abbrev pub BitsAreLiterals : Type 0
BitsAreLiterals =
    (u : Unrolling) (planes : PlaneSet) (b : Block) (bit : Bool) (i : ℕ) → IsProblem u → IsOf u planes → b.0 < blocks_in u → i < 64
    → is_set (word_for bit (words_at planes b)) i ≡ has u planes (lit (cell_of u b i) bit)

-- each literal is of a signal and a cycle that are there
abbrev pub LiteralsAreOfCells : Type 0
LiteralsAreOfCells = (u : Unrolling) (planes : PlaneSet) (l : Lit) → IsOf u planes → IsTrue (has u planes l) → (l.cell.sig.0 < signals_in u) × (l.cell.cycle < u.cycles)

-- with other words of a block, its cells have the literals of these words
abbrev pub NewWordsAreLiterals : Type 0
NewWordsAreLiterals =
    (u : Unrolling) (planes : PlaneSet) (w : PinWord) (l : Lit) → IsOf u planes → l.cell.sig.0 < signals_in u → l.cell.cycle < u.cycles
    → has u (with_words planes (block_of u l.cell) w) l ≡ is_set (word_for l.bit w) (bit_of l.cell)

-- and all other cells have those that they had
abbrev pub OtherLiteralsStay : Type 0
OtherLiteralsStay = (u : Unrolling) (planes : PlaneSet) (b : Block) (w : PinWord) (l : Lit) → block_of u l.cell ≢ b → has u (with_words planes b w) l ≡ has u planes l

-- planes are what a list has of their words: no others with the same mark have the same ones
abbrev pub ListsTellPlanes : Type 0
ListsTellPlanes =
    (u : Unrolling) (a b : PlaneSet) (list : List ℕ) → IsProblem u → IsOf u a → IsOf u b → a.mark ≡ b.mark → ListsWords u a list → ListsWords u b list → a ≡ b

-- there are as many literals as bits in the words of all blocks
abbrev pub LiteralsByBlock : Type 0
LiteralsByBlock = (u : Unrolling) (planes : PlaneSet) → IsOf u planes → literal_count u planes ≡ sum_by bits_of_both planes.words

-- planes with the same literals and one more have more of them
abbrev pub MoreLiteralsCountMore : Type 0
MoreLiteralsCountMore =
    (u : Unrolling) (few many : PlaneSet) (l : Lit) → IsOf u many → IsWithin (lits u few) (lits u many) → IsFalse (has u few l) → IsTrue (has u many l)
    → literal_count u few < literal_count u many

-- there are no more literals than bits: two for each of 64 cycles of a block
abbrev pub LiteralsAreBits : Type 0
LiteralsAreBits = (u : Unrolling) (planes : PlaneSet) → IsOf u planes → literal_count u planes ≤ 128 * blocks_in u
