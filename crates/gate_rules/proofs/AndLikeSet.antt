-- What holds of the words at each place, as they are set one by one.
use Rattle.std.proofs.Common.{ℕ, ◌≡◌, ◌+◌, ◌<◌, ◌≤◌, Bool, false, List, length, set, inl, inr, sym, subst, ap, ◌∙◌, arith}
use Rattle.std.proofs.lemmas.Bool.{cases_eq, cases_lt}
use Rattle.std.proofs.lemmas.List.{get_or-set_same, get_or-set_other, get_or_past}
use Rattle.unroll.specs.declared.words.PinWord.{PinWord}
use Rattle.unroll.specs.Bits.{is_set, word_for, no_words}
use Rattle.unroll.proofs.lemmas.Words.{none_bits}
use Rattle.gate_rules.specs.Lanes.{words_at_place}

-- one place more
pub set_next : (P : ℕ → PinWord → Type 0) (words after : List PinWord) (n : ℕ) (word : PinWord) → n < length words → after ≡ set words n word
    → ((j : ℕ) → j < n → P j (words_at_place words j)) → P n word → (j : ℕ) → j < n + 1 → P j (words_at_place after j)
set_next P words after n word within is so_far here j below =
    elim (cases_eq j n) [
      | inl same ↦
          let at_n : words_at_place after n ≡ word = ap (λ (ws : List PinWord). words_at_place ws n) is ∙ get_or-set_same words n word no_words within in
          subst (λ k. P k (words_at_place after k)) (sym same) (subst (P n) (sym at_n) here)
      | inr other ↦
          let at_j : words_at_place after j ≡ words_at_place words j = ap (λ (ws : List PinWord). words_at_place ws j) is ∙ get_or-set_other words n j word no_words other in
          subst (P j) (sym at_j) (so_far j (omega arith))
    ]

-- past the end no bit is set
pub past_end : (words : List PinWord) (j : ℕ) (bit : Bool) (lane : ℕ) → length words ≤ j → is_set (word_for bit (words_at_place words j)) lane ≡ false
past_end words j bit lane past = ap (λ w. is_set (word_for bit w) lane) (get_or_past words j no_words past) ∙ none_bits bit lane

-- where no word has the bit of a cycle, no place has it
pub all_invalid : (words : List PinWord) (n lane : ℕ) (bit : Bool) → length words ≤ n → ((j : ℕ) → j < n → is_set (word_for bit (words_at_place words j)) lane ≡ false)
    → (j : ℕ) → is_set (word_for bit (words_at_place words j)) lane ≡ false
all_invalid words n lane bit all_set each j = elim (cases_lt j n) [ inl below ↦ each j below | inr past ↦ past_end words j bit lane (omega arith) ]
