-- Words that are drawn one after another.
use Rattle.std.proofs.Common.{ℕ, suc, ◌≡◌, ◌<◌, ◌+◌, ◌*◌, ◌/◌, ◌%◌, ◌^◌, Bool, false, eqb, List, length, get_or, set, arith, inl, inr, sym, ap, subst, ◌∙◌}
use Rattle.std.proofs.lemmas.Bool.{cases_eq}
use Rattle.std.proofs.lemmas.List.{get_or-set_same, get_or-set_other}
use Rattle.rand_pcg.specs.Lcg.{Lcg, next, started, increment_of}
use Rattle.rand_pcg.specs.Pcg.{pcg32, multiplier_64}
use Rattle.unroll.specs.Bits.{is_set}
use Rattle.cycle_sim.specs.BitTable.{BitTable, bit_in}
use Rattle.cycle_sim.specs.Drawing.{drawn_bit}
use Rattle.cycle_sim.specs.Words.{generator_at, word_at}

-- the top bit of a word
pub top-bit : (w : ℕ) → w < 2 ^ 32 → eqb (w / 2147483648) 1 ≡ is_set w 31
unfolding is_set
top-bit w small = ap (λ n. eqb n 1) (one w small)
  where
    one : (n : ℕ) → n < 2 ^ 32 → n / 2 ^ 31 ≡ n / 2 ^ 31 % 2
    one n h = omega (arith, h)

-- the generator before the first word
pub at-start : (stream seed : ℕ) (g : Lcg) → g ≡ started 64 multiplier_64 seed (increment_of 64 stream) → g ≡ generator_at stream seed 0
unfolding generator_at
at-start stream seed g e = e

pub drawn-none : (seed inputs : ℕ) (g : Lcg) → g ≡ started 64 multiplier_64 seed (increment_of 64 1) → g ≡ generator_at 1 seed (0 * inputs)
drawn-none seed inputs g e = at-start 1 seed g e ∙ ap (generator_at 1 seed) (none inputs)
  where
    none : (n : ℕ) → 0 ≡ 0 * n
    none n = grind arith

pub next-row : (cycle inputs : ℕ) → cycle * inputs + inputs ≡ (cycle + 1) * inputs
next-row cycle inputs = grind arith

module _ (stream seed n : ℕ) (g after : Lcg) (word : ℕ) (at : g ≡ generator_at stream seed n) (step : (word, after) ≡ pcg32 g) where
  pub next-at : after ≡ generator_at stream seed (n + 1)
  unfolding generator_at
  next-at = ap (λ p. p.1) step ∙ ap (next 64 multiplier_64) at ∙ ap (generator_at stream seed) (one n)
    where
      one : (m : ℕ) → suc m ≡ m + 1
      one m = omega arith

  pub word-is : word ≡ word_at stream seed n
  word-is = ap (λ p. p.0) step ∙ ap (λ x. (pcg32 x).0) at

-- one bit more of a row
pub drawn-more : (seed n j word : ℕ) (row : List Bool) → j < length row → word < 2 ^ 32 → word ≡ word_at 1 seed (n + j) → ((k : ℕ) → k < j → get_or row k false ≡ is_set (word_at 1 seed (n + k)) 31)
    → (k : ℕ) → k < j + 1 → get_or (set row j (eqb (word / 2147483648) 1)) k false ≡ is_set (word_at 1 seed (n + k)) 31
drawn-more seed n j word row within small is before k h =
    elim (cases_eq k j) [
      | inl same ↦
          ap (λ i. get_or (set row j (eqb (word / 2147483648) 1)) i false) same ∙ get_or-set_same row j (eqb (word / 2147483648) 1) false within ∙ top-bit word small
          ∙ ap (λ w. is_set w 31) is ∙ ap (λ i. is_set (word_at 1 seed (n + i)) 31) (sym same)
      | inr other ↦ get_or-set_other row j k (eqb (word / 2147483648) 1) false other ∙ before k (omega (arith, h, other))
    ]

-- one row more of a table
pub row-drawn : (seed inputs cycle : ℕ) (before after : BitTable) (row : List Bool) → length row ≡ inputs → before.width ≡ inputs
    → ((j : ℕ) → j < length row → bit_in after cycle j ≡ get_or row j false) → ((r j : ℕ) → (r ≡ cycle → ⊥) → j < before.width → bit_in after r j ≡ bit_in before r j)
    → ((j : ℕ) → j < inputs → get_or row j false ≡ is_set (word_at 1 seed (cycle * inputs + j)) 31)
    → ((c j : ℕ) → c < cycle → j < inputs → bit_in before c j ≡ drawn_bit seed inputs c j) → (c j : ℕ) → c < cycle + 1 → j < inputs → bit_in after c j ≡ drawn_bit seed inputs c j
row-drawn seed inputs cycle before after row long wide here elsewhere drawn earlier c j h within =
    elim (cases_eq c cycle) [
      | inl same ↦
          ap (λ r. bit_in after r j) same ∙ here j (subst (λ n. j < n) (sym long) within) ∙ drawn j within ∙ ap (λ r. drawn_bit seed inputs r j) (sym same)
      | inr other ↦ elsewhere c j other (subst (λ n. j < n) (sym wide) within) ∙ earlier c j (omega (arith, h, other)) within
    ]
