-- What the words of a task with few pins say in one of 64 cycles.
use Rattle.std.specs.Prelude.{ℕ, ◌≡◌, ◌<◌, ◌&&◌, ◌||◌, Bool, true, false, not, List, length}
use Rattle.sr_model.specs.XorLike.{plus}
use Rattle.sr_model.specs.declared.gates.Family.{Family}
use Rattle.sr_model.specs.declared.gates.Family.TheVariants.{AndLike, Parity}
use Rattle.unroll.specs.declared.words.PinWord.{PinWord}
use Rattle.unroll.specs.Bits.{is_set, word_for}
use Rattle.gate_rules.specs.Forced.{bit_at_place}

-- whether the words have the literal of a bit
abbrev pub literal : PinWord → ℕ → Bool → Bool
literal words i bit = is_set (word_for bit words) i

-- of two sets of literals of a cell, whether a bit of the first and one of the second have this sum
abbrev pub sum_has : (Bool → Bool) → (Bool → Bool) → Bool → Bool
sum_has a b sum = (a false && b sum) || (a true && b (not sum))

-- whether a gate of the family with one pin has the other bit than the pin
abbrev pub inverts : Family → Bool
inverts (AndLike pins target) = plus pins target
inverts (Parity inverted) = inverted

-- the new words have those literals of the words that are not known
abbrev pub AreWithout : List PinWord → List PinWord → List PinWord → Type 0
AreWithout known words new =
    (j i : ℕ) (bit : Bool) → j < length words → i < 64 → bit_at_place new j bit i ≡ (bit_at_place words j bit i && not (bit_at_place known j bit i))
