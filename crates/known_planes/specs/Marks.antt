-- What changed since a mark was set, and the words that come of putting it back.
use Rattle.std.specs.Prelude.{ℕ, ◌≡◌, ◌<◌, ◌≤◌, ◌+◌, ◌*◌, ◌⊎◌, Bool, false, not, IsTrue, List, [], ◌∷◌, ◌++◌, Option, length, map, option_map, slice_index_or, slice_set}
use Rattle.std.specs.List.{All, Contains, count_by}
use Rattle.sr_model.specs.Limits.{chunk_count, max_cycles, max_signals}
use Rattle.unroll.specs.declared.problem.InChunk.{InChunk}
use Rattle.unroll.specs.declared.words.PinWord.{PinWord}
use Rattle.known_planes.specs.declared.mark.Change.{Change}

-- what contracts see of what is noted: over how many signals and chunks it is, and the changes, the first one first
pub record Noted : Type 0 where
  pub signals : ℕ
  pub chunks : ℕ
  pub changes : List Change

-- the signal and the chunk are there
abbrev pub IsAmong : ℕ → ℕ → InChunk → Type 0
IsAmong signals chunks at = (at.sig.0 < signals) × (at.chunk < chunks)

-- the blocks of the changes
abbrev pub blocks_of : List Change → List InChunk
blocks_of changes = map (λ change. change.at) changes

-- where it is kept whether a block is among them: chunk after chunk, as its words lie
abbrev pub order_of : ℕ → InChunk → ℕ
order_of signals at = at.chunk * signals + at.sig.0

-- the changes are of blocks that are there, those that count as changed are among them, and there is room for a change of each block that does not
pub record IsNotedOnce (noted : Noted) (capacity : ℕ) (changed : List Bool) : Type 0 where
  pub few_signals : noted.signals ≤ max_signals
  pub few_chunks : noted.chunks ≤ chunk_count max_cycles
  pub inside : All (λ change. IsAmong noted.signals noted.chunks change.at) noted.changes
  pub size : length changed ≡ noted.signals * noted.chunks
  pub listed : (at : InChunk) → IsAmong noted.signals noted.chunks at → IsTrue (slice_index_or changed (order_of noted.signals at) false) → Contains (blocks_of noted.changes) at
  pub few : length noted.changes + count_by not changed ≤ noted.signals * noted.chunks
  pub room : noted.signals * noted.chunks ≤ capacity

-- a change is behind the others, or there was one of its block
abbrev pub Notes : Change → List Change → List Change → Type 0
Notes change old new = (new ≡ old ++ change ∷ []) ⊎ ((new ≡ old) × Contains (blocks_of old) change.at)

-- the words once the changes are put back, the last one first
abbrev pub words_back : ℕ → List Change → List PinWord → List PinWord
words_back chunks [] words = words
words_back chunks (change ∷ later) words = slice_set (words_back chunks later words) (change.at.sig.0 * chunks + change.at.chunk) change.before

-- what is noted is of planes over so many signals and chunks
abbrev pub IsNotedOver : ℕ → ℕ → Noted → Type 0
IsNotedOver signals chunks noted = (noted.signals ≡ signals) × (noted.chunks ≡ chunks) × (length noted.changes ≤ signals * chunks)

-- the words that planes with these words go back to
abbrev pub mark_of : ℕ → List PinWord → Option Noted → Option (List PinWord)
mark_of chunks words noted = option_map (λ n. words_back chunks n.changes words) noted
