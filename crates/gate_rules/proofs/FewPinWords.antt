-- The words that are put together for a task with few pins.
use Rattle.std.proofs.Common.{ℕ, ◌≡◌, ◌%◌, ◌*◌, ◌/◌, ◌<◌, ◌^◌, ◌-◌, ◌&&◌, ◌||◌, Bool, true, false, not, eqb, ltb, bit_and, bit_or, ap, ◌∙◌}
use Rattle.sr_model.specs.XorLike.{plus}
use Rattle.unroll.specs.declared.words.PinWord.{PinWord}
use Rattle.unroll.specs.Bits.{is_set, word_for}
use Rattle.unroll.proofs.lemmas.Words.{is_set_or, is_set_and}
use Rattle.gate_rules.specs.FewPinBits.{literal, sum_has}
use Rattle.gate_rules.proofs.FlipFlopWords.{later, carried}

-- the word of one literal, with those of both ways to the sum
sum_bit : (w a b c d i : ℕ) → is_set (bit_or w (bit_or (bit_and a b) (bit_and c d))) i ≡ (is_set w i || ((is_set a i && is_set b i) || (is_set c i && is_set d i)))
sum_bit w a b c d i =
    is_set_or w (bit_or (bit_and a b) (bit_and c d)) i
    ∙ ap (λ x. is_set w i || x) (is_set_or (bit_and a b) (bit_and c d) i ∙ ap (λ x. x || is_set (bit_and c d) i) (is_set_and a b i) ∙ ap (λ x. (is_set a i && is_set b i) || x) (is_set_and c d i))

pub with_sum_bits : (w a b : PinWord) (i : ℕ) (bit : Bool)
    → is_set (word_for bit (record {
      zero = bit_or w.zero (bit_or (bit_and a.zero b.zero) (bit_and a.one b.one));
      one = bit_or w.one (bit_or (bit_and a.zero b.one) (bit_and a.one b.zero));
    })) i ≡ (literal w i bit || sum_has (literal a i) (literal b i) bit)
with_sum_bits w a b i true = sum_bit w.one a.zero b.one a.one b.zero i
with_sum_bits w a b i false = sum_bit w.zero a.zero b.zero a.one b.one i

pub turned_words : (turn : Bool) (w r : PinWord) (bit : Bool) → word_for turn r ≡ w.zero → word_for (not turn) r ≡ w.one → word_for bit r ≡ word_for (plus turn bit) w
turned_words false w r false own other = own
turned_words false w r true own other = other
turned_words true w r false own other = other
turned_words true w r true own other = own

-- one cycle later, and in the next chunk
pub later_bits : (shared : PinWord) (i : ℕ) (bit : Bool) → i < 64
    → is_set (word_for bit (record { zero = shared.zero * 2 % 18446744073709551616; one = shared.one * 2 % 18446744073709551616 })) i ≡ (ltb 0 i && literal shared (i - 1) bit)
later_bits shared i true h = later shared.one i h
later_bits shared i false h = later shared.zero i h

pub carried_bits : (shared : PinWord) (i : ℕ) (bit : Bool) → shared.zero < 2 ^ 64 → shared.one < 2 ^ 64
    → is_set (word_for bit (record { zero = shared.zero / 9223372036854775808; one = shared.one / 9223372036854775808 })) i ≡ (eqb i 0 && literal shared 63 bit)
carried_bits shared i true zero one = carried shared.one i one
carried_bits shared i false zero one = carried shared.zero i zero

-- the literals of turned words
module _ (turn : Bool) (w r : PinWord) (turned : (bit : Bool) → word_for bit r ≡ word_for (plus turn bit) w) where
  pub turned_literal : (i : ℕ) (bit : Bool) → literal r i bit ≡ literal w i (plus turn bit)
  turned_literal i bit = ap (λ n. is_set n i) (turned bit)

  pub sum_with_turned : (other : PinWord) (i : ℕ) (bit : Bool) → sum_has (literal r i) (literal other i) bit ≡ sum_has (λ b. literal w i (plus turn b)) (literal other i) bit
  sum_with_turned other i bit =
      ap (λ b. (b && literal other i bit) || (literal r i true && literal other i (not bit))) (turned_literal i false)
      ∙ ap (λ b. (literal w i (plus turn false) && literal other i bit) || (b && literal other i (not bit))) (turned_literal i true)
