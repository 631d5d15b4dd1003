-- The words of one signal, chunk by chunk.
use Rattle.std.specs.Prelude.{ℕ, ◌≡◌, ◌<◌, ◌/◌, ◌==◌, ◌&&◌, Bool, List, length, nat_lt, slice_index_or}
use Rattle.sr_model.specs.declared.cells.Sig.{Sig}
use Rattle.sr_model.specs.declared.cells.Lit.{Lit}
use Rattle.unroll.specs.declared.words.PinWord.{PinWord}
use Rattle.unroll.specs.Bits.{is_set, word_for, no_words}
use Rattle.unroll.specs.Problem.{Unrolling, HasNoLaterBit, chunks_in, bit_of}

-- the words of a signal in a chunk
abbrev pub row_words_at : List PinWord → ℕ → PinWord
row_words_at row chunk = slice_index_or row chunk no_words

-- whether the words of the signal have the literal
abbrev pub row_has : Unrolling → Sig → List PinWord → Lit → Bool
row_has u s row l = (l.cell.sig.0 == s.0) && (nat_lt l.cell.cycle u.cycles && is_set (word_for l.bit (row_words_at row (l.cell.cycle / 64))) (bit_of l.cell))

-- there are words for each chunk, and none has a bit of a later cycle
pub record IsRow (u : Unrolling) (row : List PinWord) : Type 0 where
  pub size : length row ≡ chunks_in u
  pub no_later : (chunk : ℕ) → chunk < chunks_in u → HasNoLaterBit u.cycles chunk (row_words_at row chunk)
