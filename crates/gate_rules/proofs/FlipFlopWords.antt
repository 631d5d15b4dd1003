-- The words of a flip-flop's blocks: which stand beside a block, and what bits are put together of them.
use Rattle.std.proofs.Common.{ℕ, zero, suc, ◌≡◌, ◌≢◌, ◌+◌, ◌-◌, ◌*◌, ◌/◌, ◌%◌, ◌<◌, ◌≤◌, ◌^◌, ◌&&◌, ◌||◌, Bool, true, false, eqb, ltb, List, [], ◌∷◌, length, get_or, bit_and, bit_or, arith, inl, inr, refl, sym, ap, ◌∙◌}
use Rattle.std.proofs.lemmas.Bool.{cases_lt, cases_eq, cond-true, cond-false, lt-ltb, le-ltb, eq-eqb, ne_eqb}
use Rattle.unroll.specs.declared.problem.Block.{Block}
use Rattle.unroll.specs.declared.words.PinWord.{PinWord}
use Rattle.unroll.specs.Bits.{is_set, no_words}
use Rattle.unroll.proofs.lemmas.Words.{is_set_or, is_set_and, is_set_shl_low, is_set_shl_high, is_set_shr, is_set_above}
use Rattle.gate_rules.specs.Forced.{words_of}
use Rattle.gate_rules.specs.FlipFlopBits.{is_set_after, is_shared}

-- the words beside the first block that is the one
pub words-found : (blocks : List Block) (view : List PinWord) (b c : Block) (w : PinWord) (j : ℕ) → length view ≡ length blocks → j < length blocks
    → ((k : ℕ) → k < j → (get_or blocks k c).0 ≢ b.0) → (get_or blocks j c).0 ≡ b.0 → get_or view j w ≡ words_of blocks view b
words-found [] view b c w j size within other here = absurd (omega arith)
words-found (d ∷ blocks) [] b c w j size within other here = absurd (omega arith)
words-found (d ∷ blocks) (v ∷ view) b c w zero size within other here = sym (cond-true (eqb d.0 b.0) v (words_of blocks view b) (eq-eqb d.0 b.0 here))
words-found (d ∷ blocks) (v ∷ view) b c w (suc j) size within other here =
    words-found blocks view b c w j (omega arith) (omega arith) (λ k below. other (suc k) (omega arith)) here
    ∙ sym (cond-false (eqb d.0 b.0) v (words_of blocks view b) (ne_eqb d.0 b.0 (other 0 (omega arith))))

-- and none set where no block is
pub words-none : (blocks : List Block) (view : List PinWord) (b c : Block) → length view ≡ length blocks → ((k : ℕ) → k < length blocks → (get_or blocks k c).0 ≢ b.0)
    → no_words ≡ words_of blocks view b
words-none [] view b c size other = refl
words-none (d ∷ blocks) [] b c size other = refl
words-none (d ∷ blocks) (v ∷ view) b c size other =
    words-none blocks view b c (omega arith) (λ k below. other (suc k) (omega arith))
    ∙ sym (cond-false (eqb d.0 b.0) v (words_of blocks view b) (ne_eqb d.0 b.0 (other 0 (omega arith))))

or_false : (x : Bool) → (x || false) ≡ x
or_false true = refl
or_false false = refl

-- the bits of the cycles after
after : (own next i : ℕ) → own < 2 ^ 64 → i < 64 → (is_set (own / 2 ^ 1) i || is_set (next * 2 ^ 63 % 2 ^ 64) i) ≡ is_set_after own next i
after own next i small within =
    elim (cases_lt i 63) [
      | inl below ↦
          ap (λ x. x || is_set (next * 2 ^ 63 % 2 ^ 64) i) (is_set_shr own 1 i) ∙ ap (λ x. is_set own (i + 1) || x) (is_set_shl_low next 63 i within below)
          ∙ or_false (is_set own (i + 1)) ∙ sym (cond-true (ltb i 63) (is_set own (i + 1)) (is_set next 0) (lt-ltb i 63 below))
      | inr last ↦
          ap (λ x. x || is_set (next * 2 ^ 63 % 2 ^ 64) i) (is_set_shr own 1 i ∙ is_set_above own (i + 1) small (omega arith))
          ∙ is_set_shl_high next 63 i within last ∙ ap (is_set next) (none-left i within last)
          ∙ sym (cond-false (ltb i 63) (is_set own (i + 1)) (is_set next 0) (le-ltb i 63 last))
    ]
  where
    none-left : (n : ℕ) → n < 64 → 63 ≤ n → n - 63 ≡ 0
    none-left n below above = omega arith

pub shared_set : (pin own next valid i : ℕ) → own < 2 ^ 64 → i < 64
    → is_set (bit_and (bit_or pin (bit_or (own / 2) (next * 9223372036854775808 % 18446744073709551616))) valid) i ≡ is_shared pin own next valid i
shared_set pin own next valid i small within =
    is_set_and (bit_or pin (bit_or (own / 2 ^ 1) (next * 2 ^ 63 % 2 ^ 64))) valid i
    ∙ ap (λ b. b && is_set valid i) (is_set_or pin (bit_or (own / 2 ^ 1) (next * 2 ^ 63 % 2 ^ 64)) i
    ∙ ap (λ b. is_set pin i || b) (is_set_or (own / 2 ^ 1) (next * 2 ^ 63 % 2 ^ 64) i ∙ after own next i small within))

-- one cycle later in the same chunk, and in the next one
pub later : (a i : ℕ) → i < 64 → is_set (a * 2 ^ 1 % 2 ^ 64) i ≡ (ltb 0 i && is_set a (i - 1))
later a i within =
    elim (cases_lt 0 i) [
      | inl above ↦ is_set_shl_high a 1 i within above ∙ ap (λ b. b && is_set a (i - 1)) (sym (lt-ltb 0 i above))
      | inr first ↦ is_set_shl_low a 1 i within (omega arith) ∙ ap (λ b. b && is_set a (i - 1)) (sym (le-ltb 0 i first))
    ]

pub carried : (a i : ℕ) → a < 2 ^ 64 → is_set (a / 2 ^ 63) i ≡ (eqb i 0 && is_set a 63)
carried a i small =
    elim (cases_eq i 0) [
      | inl first ↦ is_set_shr a 63 i ∙ ap (λ n. is_set a (n + 63)) first ∙ ap (λ b. b && is_set a 63) (sym (eq-eqb i 0 first))
      | inr above ↦ is_set_shr a 63 i ∙ is_set_above a (i + 63) small (omega arith) ∙ ap (λ b. b && is_set a 63) (sym (ne_eqb i 0 above))
    ]
