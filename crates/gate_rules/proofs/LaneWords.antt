-- One cycle of the words of cells that count.
use Rattle.std.proofs.Common.{◌≡◌, ℕ, ◌+◌, ◌<◌, ◌^◌, ◌&&◌, ◌||◌, Bool, true, false, not, cond, ltb, leb, List, [], ◌∷◌, arith, refl, bit_and, bit_or, bit_xor, ap, ◌∙◌}
use Rattle.std.specs.Int.{bit_not, w64}
use Rattle.std.specs.List.{count_by}
use Rattle.std.proofs.lemmas.Bool.Decides.{nat_tests}
use Rattle.std.proofs.lemmas.Nat.{xor_lt}
use Rattle.std.proofs.lemmas.List.Sums.{sum_by-cons}
use mathlib.Core.Bool.{beq}
use Rattle.sr_model.specs.XorLike.{plus}
use Rattle.unroll.specs.declared.words.PinWord.{PinWord}
use Rattle.unroll.specs.Bits.{is_set, word_for}
use Rattle.unroll.proofs.lemmas.Words.{all-set, is_set_or, is_set_and, is_set_not, is_set_xor, is_set_zero}
use Rattle.gate_rules.specs.declared.parity.OddBits.{OddBits}
use Rattle.gate_rules.specs.OddPlaces.{has_none, has_both, IsOddBits}

pub plus_comm : (x y : Bool) → plus x y ≡ plus y x
plus_comm true true = refl
plus_comm true false = refl
plus_comm false true = refl
plus_comm false false = refl

pub beq_one : (x : Bool) → x ≡ beq x true
beq_one true = refl
beq_one false = refl

pub beq_zero : (x : Bool) → not x ≡ beq x false
beq_zero true = refl
beq_zero false = refl

-- one at least, with one more that may count
pub once_step : (more : Bool) (n m : ℕ) → m ≡ cond more 1 0 + n → (ltb 0 n || more) ≡ ltb 0 m
once_step true n m e = grind (arith, nat_tests)
once_step false n m e = grind (arith, nat_tests)

-- two at least
pub twice_step : (more : Bool) (n m : ℕ) → m ≡ cond more 1 0 + n → (ltb 1 n || (ltb 0 n && more)) ≡ ltb 1 m
twice_step true n m e = grind (arith, nat_tests)
twice_step false n m e = grind (arith, nat_tests)

-- none but one that may count
pub none_else : (own : Bool) (n : ℕ) → (not (ltb 1 n) && (not (ltb 0 n) || own)) ≡ leb n (cond own 1 0)
none_else true n = grind (arith, nat_tests)
none_else false n = grind (arith, nat_tests)

-- one at least but one that may count
pub one_else : (own : Bool) (n : ℕ) → (ltb 1 n || (ltb 0 n && not own)) ≡ ltb (cond own 1 0) n
one_else true n = grind (arith, nat_tests)
one_else false n = grind (arith, nat_tests)

-- both words of a cell that counts, where another one does
pub settled_words : (pin : PinWord) (known both value lane : ℕ) (bit : Bool) → value < 2 ^ 64 → lane < 64
    → is_set (word_for bit (record {
      zero = bit_or pin.zero (bit_and known (bit_or both (bit_not w64 value)));
      one = bit_or pin.one (bit_and known (bit_or both value));
    })) lane ≡ (is_set (word_for bit pin) lane || (is_set known lane && (is_set both lane || beq (is_set value lane) bit)))
settled_words pin known both value lane true small within =
    is_set_or pin.one (bit_and known (bit_or both value)) lane ∙ ap (λ b. is_set pin.one lane || b) (is_set_and known (bit_or both value) lane
    ∙ ap (λ b. is_set known lane && b) (is_set_or both value lane ∙ ap (λ b. is_set both lane || b) (beq_one (is_set value lane))))
settled_words pin known both value lane false small within =
    is_set_or pin.zero (bit_and known (bit_or both (bit_not w64 value))) lane ∙ ap (λ b. is_set pin.zero lane || b) (is_set_and known (bit_or both (bit_not w64 value)) lane
    ∙ ap (λ b. is_set known lane && b) (is_set_or both (bit_not w64 value) lane ∙ ap (λ b. is_set both lane || b) (is_set_not value lane small within ∙ beq_zero (is_set value lane))))

-- the words of a target alone: it has the one literal in each cycle
pub lone_bits : (inverted : Bool) (words : PinWord) (lane : ℕ) (bit : Bool) → word_for inverted words ≡ 18446744073709551615 → word_for (not inverted) words ≡ 0 → lane < 64
    → is_set (word_for bit words) lane ≡ beq inverted bit
lone_bits true words lane true own other within = ap (λ w. is_set w lane) own ∙ all-set lane within
lone_bits true words lane false own other within = ap (λ w. is_set w lane) other ∙ is_set_zero lane
lone_bits false words lane true own other within = ap (λ w. is_set w lane) other ∙ is_set_zero lane
lone_bits false words lane false own other within = ap (λ w. is_set w lane) own ∙ all-set lane within

-- no place counts yet
pub none_counted : (lane : ℕ) → IsOddBits lane [] (record { missing = 0; missing_twice = 0; both = 0; both_twice = 0; ones = 0; lone = true })
none_counted lane = record { missing = is_set_zero lane; missing_twice = is_set_zero lane; both = is_set_zero lane; both_twice = is_set_zero lane; ones = is_set_zero lane }

-- one cell more
module _ (a b lane n m : ℕ) (more : Bool) (counts : is_set b lane ≡ more) (step : m ≡ cond more 1 0 + n) where
  once_more : is_set a lane ≡ ltb 0 n → is_set (bit_or a b) lane ≡ ltb 0 m
  once_more once = is_set_or a b lane ∙ ap (λ x. x || is_set b lane) once ∙ ap (λ x. ltb 0 n || x) counts ∙ once_step more n m step

  twice_more : (c : ℕ) → is_set a lane ≡ ltb 1 n → is_set c lane ≡ ltb 0 n → is_set (bit_or a (bit_and c b)) lane ≡ ltb 1 m
  twice_more c twice once =
      is_set_or a (bit_and c b) lane ∙ ap (λ x. x || is_set (bit_and c b) lane) twice
      ∙ ap (λ x. ltb 1 n || x) (is_set_and c b lane ∙ ap (λ x. x && is_set b lane) once ∙ ap (λ x. ltb 0 n && x) counts) ∙ twice_step more n m step

pub more_counted : (lane : ℕ) (pin : PinWord) (pins : List PinWord) (t : OddBits) (none both : ℕ) (lone : Bool) → IsOddBits lane pins t → is_set none lane ≡ has_none lane pin → is_set both lane ≡ has_both lane pin
    → IsOddBits lane (pin ∷ pins) (record {
      missing = bit_or t.missing none;
      missing_twice = bit_or t.missing_twice (bit_and t.missing none);
      both = bit_or t.both both;
      both_twice = bit_or t.both_twice (bit_and t.both both);
      ones = bit_xor t.ones pin.one;
      lone = lone;
    })
more_counted lane pin pins t none both lone is no_literal both_literals =
    let nones : count_by (has_none lane) (pin ∷ pins) ≡ cond (has_none lane pin) 1 0 + count_by (has_none lane) pins = sum_by-cons (λ p. cond (has_none lane p) 1 0) pin pins in
    let boths : count_by (has_both lane) (pin ∷ pins) ≡ cond (has_both lane pin) 1 0 + count_by (has_both lane) pins = sum_by-cons (λ p. cond (has_both lane p) 1 0) pin pins in
    record {
      missing = once_more t.missing none lane _ _ (has_none lane pin) no_literal nones is.missing;
      missing_twice = twice_more t.missing_twice none lane _ _ (has_none lane pin) no_literal nones t.missing is.missing_twice is.missing;
      both = once_more t.both both lane _ _ (has_both lane pin) both_literals boths is.both;
      both_twice = twice_more t.both_twice both lane _ _ (has_both lane pin) both_literals boths t.both is.both_twice is.both;
      ones = is_set_xor t.ones pin.one lane ∙ plus_comm (is_set t.ones lane) (is_set pin.one lane) ∙ ap (plus (is_set pin.one lane)) is.ones;
    }

-- the other bits than those that differ
pub not_xor : (a b lane : ℕ) → a < 2 ^ 64 → b < 2 ^ 64 → lane < 64 → is_set (bit_not w64 (bit_xor a b)) lane ≡ not (plus (is_set a lane) (is_set b lane))
not_xor a b lane small_a small_b within = is_set_not (bit_xor a b) lane (xor_lt 64 a b small_a small_b) within ∙ ap not (is_set_xor a b lane)
