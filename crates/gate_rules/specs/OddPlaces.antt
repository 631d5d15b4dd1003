-- What the words of a parity gate say in one of 64 cycles: counts over the places that count.
use Rattle.std.specs.Prelude.{ℕ, zero, suc, ◌≡◌, ◌==◌, ◌&&◌, ◌||◌, nat_le, nat_lt, Bool, false, not, List, [], ◌∷◌, length, map, if◌then◌else◌, slice_index_or}
use Rattle.std.specs.List.{count_by, list_all}
use mathlib.Core.Bool.{beq}
use Rattle.sr_model.specs.XorLike.{plus}
use Rattle.unroll.specs.declared.words.PinWord.{PinWord}
use Rattle.unroll.specs.Bits.{is_set, word_for}
use Rattle.gate_rules.specs.declared.parity.OddBits.{OddBits}
use Rattle.gate_rules.specs.Lanes.{words_at_place}

-- no literal is there in the cycle
abbrev pub has_none : ℕ → PinWord → Bool
has_none lane pin = not (is_set pin.zero lane || is_set pin.one lane)

-- both literals are
abbrev pub has_both : ℕ → PinWord → Bool
has_both lane pin = is_set pin.zero lane && is_set pin.one lane

-- whether a place counts: the target's does, and those whose signal stands an odd number of times among the pins
abbrev pub counts : ℕ → List Bool → ℕ → Bool
counts target odd j = (j == target) || slice_index_or odd j false

-- the places below n that count, the last one first
abbrev pub counting : ℕ → List Bool → ℕ → List ℕ
counting target odd zero = []
counting target odd (suc n) = if counts target odd n then n ∷ counting target odd n else counting target odd n

-- the words at the places that count
abbrev pub counted : ℕ → List Bool → List PinWord → List PinWord
counted target odd words = map (words_at_place words) (counting target odd (length words))

-- no place but the target's counts
abbrev pub is_lone : ℕ → List Bool → ℕ → Bool
is_lone target odd n = list_all (λ j. j == target) (counting target odd n)

-- the parity of the literals 1
abbrev pub ones_parity : ℕ → List PinWord → Bool
ones_parity lane [] = false
ones_parity lane (pin ∷ pins) = plus (is_set pin.one lane) (ones_parity lane pins)

-- In one cycle, the bits are those of these words.
pub record IsOddBits (lane : ℕ) (pins : List PinWord) (tally : OddBits) : Type 0 where
  pub missing : is_set tally.missing lane ≡ nat_lt 0 (count_by (has_none lane) pins)
  pub missing_twice : is_set tally.missing_twice lane ≡ nat_lt 1 (count_by (has_none lane) pins)
  pub both : is_set tally.both lane ≡ nat_lt 0 (count_by (has_both lane) pins)
  pub both_twice : is_set tally.both_twice lane ≡ nat_lt 1 (count_by (has_both lane) pins)
  pub ones : is_set tally.ones lane ≡ ones_parity lane pins

-- each but this one has a literal
abbrev pub others_known : ℕ → List PinWord → PinWord → Bool
others_known lane pins pin = nat_le (count_by (has_none lane) pins) (if has_none lane pin then 1 else 0)

-- one but this one has both literals
abbrev pub others_both : ℕ → List PinWord → PinWord → Bool
others_both lane pins pin = nat_lt (if has_both lane pin then 1 else 0) (count_by (has_both lane) pins)

-- the bit that the literals 1 of those but this one leave it
abbrev pub others_value : Bool → ℕ → List PinWord → PinWord → Bool
others_value inverted lane pins pin = plus inverted (plus (is_set pin.one lane) (ones_parity lane pins))

-- those but this one leave it the bit alone
abbrev pub settles : Bool → ℕ → List PinWord → PinWord → Bool → Bool
settles inverted lane pins pin bit = others_known lane pins pin && (others_both lane pins pin || beq (others_value inverted lane pins pin) bit)

-- the literal that the rule gives at a place, by whether it counts, and no other does
abbrev pub place_bit : Bool → ℕ → List PinWord → Bool → Bool → PinWord → Bool → Bool
place_bit inverted lane pins counts lone pin bit =
    if counts
    then if lone then beq inverted bit else (is_set (word_for bit pin) lane || settles inverted lane pins pin bit)
    else is_set (word_for bit pin) lane

-- the literal that the rule gives at place j
abbrev pub parity_bit : Bool → ℕ → List Bool → List PinWord → ℕ → ℕ → Bool → Bool
parity_bit inverted target odd words lane j bit =
    place_bit inverted lane (counted target odd words) (counts target odd j) (is_lone target odd (length words)) (words_at_place words j) bit
