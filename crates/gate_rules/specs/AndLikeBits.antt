-- What the words of an and-like gate say in one of 64 cycles, and what its forced words have to say.
use Rattle.std.specs.Prelude.{ℕ, ◌≡◌, ◌≢◌, ◌<◌, ◌≤◌, ◌↔◌, Bool, true, false, not, IsTrue, List, length, slice_index_or}
use Rattle.sr_model.specs.declared.cells.Cell.{Cell}
use Rattle.sr_model.specs.declared.cells.Lit.{Lit}
use Rattle.sr_model.specs.AndLike.{IsAndLike}
use Rattle.sr_model.specs.Netlist.{Instance}
use Rattle.sr_model.specs.Closure.{Forces, passing, lit}
use Rattle.unroll.specs.declared.words.PinWord.{PinWord}
use Rattle.unroll.specs.Bits.{is_set, word_for}
use Rattle.gate_rules.specs.Lanes.{words_at_place, IsLane}

-- whether the words at a place have the literal of a bit
abbrev pub has_literal : List PinWord → ℕ → Bool → ℕ → Bool
has_literal words lane bit j = is_set (word_for bit (words_at_place words j)) lane

-- Of the places below a number but one: whether one at least lacks a literal, whether two at least do, and whether one has the other literal.
pub record ArePinBits (has has_other : ℕ → Bool) (target count : ℕ) (lacking lacking_two other : Bool) : Type 0 where
  pub none_lacks : lacking ≡ false → (j : ℕ) → j < count → j ≢ target → has j ≡ true
  pub one_lacks : lacking ≡ true → (j : ℕ) × (j < count) × (j ≢ target) × (has j ≡ false)
  pub one_alone : lacking_two ≡ false → (j k : ℕ) → j < count → j ≢ target → has j ≡ false → k < count → k ≢ target → has k ≡ false → j ≡ k
  pub two_lack : lacking_two ≡ true → (j k : ℕ) × (j < count) × (j ≢ target) × (has j ≡ false) × (k < count) × (k ≢ target) × (has k ≡ false) × (j ≢ k)
  pub none_other : other ≡ false → (j : ℕ) → j < count → j ≢ target → has_other j ≡ false
  pub one_other : other ≡ true → (j : ℕ) × (j < count) × (j ≢ target) × (has_other j ≡ true)

-- the same of words, in each of 64 cycles
abbrev pub ArePinWords : Bool → ℕ → List PinWord → ℕ → ℕ → ℕ → ℕ → Type 0
ArePinWords pins target words count lacking lacking_two other =
    (lane : ℕ) → lane < 64 → ArePinBits (has_literal words lane pins) (has_literal words lane (not pins)) target count (is_set lacking lane) (is_set lacking_two lane) (is_set other lane)

-- the bits of the words at a place, in each of 64 cycles that are there, are exactly what the gate forces of its cell
abbrev pub WordForced : Bool → Bool → ℕ → ℕ → List PinWord → ℕ → PinWord → Type 0
WordForced pins target_bit target valid view place forced =
    (lane : ℕ) (i : Instance) (cells : List Cell) (known : Lit → Bool) → lane < 64 → is_set valid lane ≡ true → IsAndLike pins target_bit i → 2 ≤ length cells
    → IsLane i cells target known lane view → (d : Cell) (bit : Bool) → place < length cells
    → IsTrue (is_set (word_for bit forced) lane) ↔ Forces i (passing known) (lit (slice_index_or cells place d) bit)
