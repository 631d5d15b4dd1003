-- Rows of bits.
use Rattle.std.specs.Prelude.{ℕ, ◌≡◌, ◌+◌, ◌*◌, ◌/◌, ◌%◌, Bool, List, length, slice_index_or}
use Rattle.unroll.specs.Bits.{is_set}

-- what contracts see of rows of bits: how many bits a row has, how many rows there are, and their words, 64 bits of one row in each
pub record BitTable : Type 0 where
  pub width : ℕ
  pub count : ℕ
  pub words : List ℕ

-- how many words a row has, the last one perhaps not full
abbrev pub row_words : ℕ → ℕ
row_words width = (width + 63) / 64

abbrev pub bit_in : BitTable → ℕ → ℕ → Bool
bit_in t row column = is_set (slice_index_or t.words (row * row_words t.width + column / 64) 0) (column % 64)

-- each row has its words
abbrev pub HasItsWords : BitTable → Type 0
HasItsWords t = length t.words ≡ t.count * row_words t.width
