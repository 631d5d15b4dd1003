-- The bits of the two words of a block.
use Rattle.std.proofs.Common.{ℕ, ◌≡◌, ◌<◌, ◌^◌, ◌&&◌, ◌||◌, Bool, true, false, not, bit_and, ap, ◌∙◌}
use Rattle.std.specs.Int.{bit_not, w64}
use Rattle.unroll.specs.declared.words.PinWord.{PinWord}
use Rattle.unroll.specs.Bits.{is_set, word_for, no_words, union_of}
use Rattle.unroll.proofs.WordBits.{is_set_and, is_set_not, is_set_or, is_set_zero}

pub none_bits : (bit : Bool) (i : ℕ) → is_set (word_for bit no_words) i ≡ false
none_bits true i = is_set_zero i
none_bits false i = is_set_zero i

pub union_bits : (a b : PinWord) (bit : Bool) (i : ℕ) → is_set (word_for bit (union_of a b)) i ≡ (is_set (word_for bit a) i || is_set (word_for bit b) i)
union_bits a b true i = is_set_or a.one b.one i
union_bits a b false i = is_set_or a.zero b.zero i

pub within_bits : (a : PinWord) (mask : ℕ) (bit : Bool) (i : ℕ)
    → is_set (word_for bit (record { zero = bit_and a.zero mask; one = bit_and a.one mask })) i ≡ (is_set (word_for bit a) i && is_set mask i)
within_bits a mask true i = is_set_and a.one mask i
within_bits a mask false i = is_set_and a.zero mask i

pub without_bits : (a b : PinWord) (bit : Bool) (i : ℕ) → b.zero < 2 ^ 64 → b.one < 2 ^ 64 → i < 64
    → is_set (word_for bit (record { zero = bit_and a.zero (bit_not w64 b.zero); one = bit_and a.one (bit_not w64 b.one) })) i ≡ (is_set (word_for bit a) i && not (is_set (word_for bit b) i))
without_bits a b true i zero one within = is_set_and a.one (bit_not w64 b.one) i ∙ ap (λ x. is_set a.one i && x) (is_set_not b.one i one within)
without_bits a b false i zero one within = is_set_and a.zero (bit_not w64 b.zero) i ∙ ap (λ x. is_set a.zero i && x) (is_set_not b.zero i zero within)
