-- A gate in one of 64 cycles at once: what a bit of its words says.
use Rattle.std.specs.Prelude.{ℕ, ◌≡◌, ◌≢◌, ◌<◌, Bool, List, length, slice_index_or}
use Rattle.std.specs.List.{AllPairs, Contains}
use Rattle.sr_model.specs.declared.cells.Cell.{Cell}
use Rattle.sr_model.specs.declared.cells.Lit.{Lit}
use Rattle.sr_model.specs.Netlist.{Instance}
use Rattle.sr_model.specs.Closure.{lit}
use Rattle.unroll.specs.declared.words.PinWord.{PinWord}
use Rattle.unroll.specs.Bits.{is_set, word_for, no_words}

-- the words at a place
abbrev pub words_at_place : List PinWord → ℕ → PinWord
words_at_place words j = slice_index_or words j no_words

-- One bit of the words of a gate's cells says what is known of them: the target stands at its place, the pins at the others, each cell once.
pub record IsLane (i : Instance) (cells : List Cell) (target : ℕ) (known : Lit → Bool) (lane : ℕ) (words : List PinWord) : Type 0 where
  pub size : length words ≡ length cells
  pub target_within : target < length cells
  pub target_is : slice_index_or cells target i.target ≡ i.target
  pub pins : (j : ℕ) (d : Cell) → j < length cells → j ≢ target → Contains i.pins (slice_index_or cells j d)
  pub each_pin : (c : Cell) → Contains i.pins c → (j : ℕ) × (j < length cells) × (j ≢ target) × (slice_index_or cells j c ≡ c)
  pub distinct : AllPairs (λ a b. a ≢ b) cells
  pub says : (j : ℕ) (d : Cell) (bit : Bool) → j < length cells → is_set (word_for bit (words_at_place words j)) lane ≡ known (lit (slice_index_or cells j d) bit)
