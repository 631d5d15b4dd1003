-- Where the words of the blocks lie in one flat list.
use Rattle.std.specs.Prelude.{ℕ, ◌≡◌, ◌≤◌, ◌+◌, ◌*◌, ◌/◌, ◌%◌, List, length, map, slice_index_or}
use Rattle.std.specs.List.{range_with_len}
use Rattle.sr_model.specs.Limits.{chunk_count, max_blocks, max_cycles, max_signals}
use Rattle.unroll.specs.declared.words.PinWord.{PinWord}
use Rattle.unroll.specs.Problem.{Unrolling, chunks_in, signals_in}

-- the place of the zero word of a signal in a chunk: chunk after chunk, each signal after signal; its one word is behind it
abbrev pub place_of : ℕ → ℕ → ℕ → ℕ
place_of signals s chunk = 2 * (chunk * signals + s)

-- the pair of words that begins at a place
abbrev pub pair_at : List ℕ → ℕ → PinWord
pair_at flat place = record { zero = slice_index_or flat place 0; one = slice_index_or flat (place + 1) 0 }

-- the pair of a block by its number
abbrev pub pair_of : ℕ → ℕ → List ℕ → ℕ → PinWord
pair_of signals chunks flat b = pair_at flat (place_of signals (b / chunks) (b % chunks))

-- the pairs of all blocks
abbrev pub words_from : ℕ → ℕ → List ℕ → List PinWord
words_from signals chunks flat = map (pair_of signals chunks flat) (range_with_len 0 (signals * chunks))

-- the same for a problem
abbrev pub words_in : Unrolling → List ℕ → List PinWord
words_in u flat = words_from (signals_in u) (chunks_in u) flat

-- two words for each block, and a further one that is 0
pub record IsLaidOut (signals chunks : ℕ) (flat : List ℕ) : Type 0 where
  pub size : length flat ≡ 2 * (signals * chunks) + 1
  pub last : slice_index_or flat (2 * (signals * chunks)) 1 ≡ 0
  pub few_signals : signals ≤ max_signals
  pub some_chunks : 1 ≤ chunks
  pub few_chunks : chunks ≤ chunk_count max_cycles
  pub few_blocks : signals * chunks ≤ max_blocks
