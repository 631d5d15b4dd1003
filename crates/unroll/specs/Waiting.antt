-- Tasks that wait: a bit for each signal, chunk by chunk.
use Rattle.std.specs.Prelude.{ℕ, ◌≡◌, ◌≢◌, ◌<◌, ◌≤◌, ◌⊎◌, ◌+◌, ◌*◌, ◌/◌, ◌%◌, ◌&&◌, ◌==◌, Bool, true, List, length, nat_lt, not, sum, slice_index_or, slice_set}
use Rattle.std.specs.List.{Contains}
use Rattle.sr_model.specs.declared.cells.Sig.{Sig}
use Rattle.sr_model.specs.Limits.{max_signals}
use Rattle.unroll.specs.Bits.{is_set}
use Rattle.unroll.specs.declared.waiting.RowAt.{RowAt}

-- what contracts see of the tasks that wait: over how many signals and chunks they are, and the words of bits
pub record Waiting : Type 0 where
  pub signals : ℕ
  pub chunks : ℕ
  pub words : List ℕ

-- how many words a chunk has
abbrev pub row_length : ℕ → ℕ
row_length signals = signals / 64 + 1

-- word r of a chunk
abbrev pub row_word : ℕ → List ℕ → ℕ → ℕ → ℕ
row_word signals words chunk r = slice_index_or words (chunk * row_length signals + r) 0

-- the same tasks, but for those of one word
abbrev pub with_word : Waiting → ℕ → ℕ → ℕ → Waiting
with_word q chunk r word = record { signals = q.signals; chunks = q.chunks; words = slice_set q.words (chunk * row_length q.signals + r) word }

-- whether the signal's bit in the chunk is set
abbrev pub has_task : Waiting → Sig → ℕ → Bool
has_task q s chunk = is_set (row_word q.signals q.words chunk (s.0 / 64)) (s.0 % 64)

-- the task of the signal in the chunk waits
pub record Waits (q : Waiting) (s : Sig) (chunk : ℕ) : Type 0 where
  pub signal : s.0 < q.signals
  pub early : chunk < q.chunks
  pub set : has_task q s chunk ≡ true

-- a number that is lower where fewer tasks wait
abbrev pub waiting_measure : Waiting → ℕ
waiting_measure q = sum q.words

-- the tasks of these signals wait in the chunk too, and no others more
pub record Adds (targets : List Sig) (chunk : ℕ) (before after : Waiting) : Type 0 where
  pub signals : after.signals ≡ before.signals
  pub chunks : after.chunks ≡ before.chunks
  pub wait : (s : Sig) → Contains targets s → Waits after s chunk
  pub kept : (s : Sig) (c : ℕ) → Waits before s c → Waits after s c
  pub only : (s : Sig) (c : ℕ) → Waits after s c → Waits before s c ⊎ (Contains targets s × (c ≡ chunk))

-- and so for these signals without one of them
pub record AddsBut (targets : List Sig) (but : Sig) (chunk : ℕ) (before after : Waiting) : Type 0 where
  pub signals : after.signals ≡ before.signals
  pub chunks : after.chunks ≡ before.chunks
  pub wait : (s : Sig) → Contains targets s → s ≢ but → Waits after s chunk
  pub kept : (s : Sig) (c : ℕ) → Waits before s c → Waits after s c
  pub only : (s : Sig) (c : ℕ) → Waits after s c → Waits before s c ⊎ (Contains targets s × (s ≢ but) × (c ≡ chunk))

-- the task of the signal in the chunk waits no longer, and all others that waited do
pub record TakesOut (taken : Sig) (chunk : ℕ) (before after : Waiting) : Type 0 where
  pub signals : after.signals ≡ before.signals
  pub chunks : after.chunks ≡ before.chunks
  pub kept : (s : Sig) (c : ℕ) → Waits before s c → Waits after s c ⊎ ((s ≡ taken) × (c ≡ chunk))
  pub only : (s : Sig) (c : ℕ) → Waits after s c → Waits before s c
  pub gone : Waits after taken chunk → ⊥
  pub fewer : waiting_measure after < waiting_measure before

-- of the signals from a number on, it is the least whose task in the chunk waits
pub record IsNextFrom (q : Waiting) (chunk from : ℕ) (next : Sig) : Type 0 where
  pub waits : Waits q next chunk
  pub late : from ≤ next.0
  pub least : (s : Sig) → from ≤ s.0 → s.0 < next.0 → Waits q s chunk → ⊥

-- none waits in the chunk
abbrev pub IsIdle : Waiting → ℕ → Type 0
IsIdle q chunk = (s : Sig) → Waits q s chunk → ⊥

-- how many words the marks of a chunk have, one for each 64 words
abbrev pub mark_length : ℕ → ℕ
mark_length signals = signals / 4096 + 1

-- word g of the marks of a chunk
abbrev pub mark_word : ℕ → List ℕ → ℕ → ℕ → ℕ
mark_word signals marks chunk g = slice_index_or marks (chunk * mark_length signals + g) 0

-- the chunk has a word r, and a task waits in it
abbrev pub row_has_task : ℕ → List ℕ → ℕ → ℕ → Bool
row_has_task signals words chunk r = nat_lt r (row_length signals) && not (row_word signals words chunk r == 0)

-- each bit is that of a signal, and the mark of a word is set exactly where a task waits in it
pub record IsKept (signals chunks : ℕ) (words marks : List ℕ) : Type 0 where
  pub few_signals : signals ≤ max_signals
  pub few_chunks : chunks ≤ 128
  pub size : length words ≡ chunks * row_length signals
  pub marks_size : length marks ≡ chunks * mark_length signals
  pub within : (chunk r i : ℕ) → chunk < chunks → r < row_length signals → i < 64 → is_set (row_word signals words chunk r) i ≡ true → r * 64 + i < signals
  pub marked : (chunk g i : ℕ) → chunk < chunks → g < mark_length signals → i < 64 → is_set (mark_word signals marks chunk g) i ≡ row_has_task signals words chunk (g * 64 + i)

-- a word of a chunk in which a task waits
pub record HasTask (q : Waiting) (at : RowAt) : Type 0 where
  pub early : at.chunk < q.chunks
  pub row : at.row < row_length q.signals
  pub some : row_word q.signals q.words at.chunk at.row ≢ 0

-- of the words of a chunk from a place on, it is the first in which a task waits
pub record IsFirstRow (q : Waiting) (chunk from row : ℕ) : Type 0 where
  pub late : from ≤ row
  pub within : row < row_length q.signals
  pub some : row_word q.signals q.words chunk row ≢ 0
  pub first : (r : ℕ) → from ≤ r → r < row → row_word q.signals q.words chunk r ≡ 0
