-- How many bits of a word are set.
use Rattle.std.proofs.Common.{ℕ, zero, suc, ◌≡◌, ◌+◌, ◌*◌, ◌/◌, ◌%◌, ◌<◌, ◌^◌, cond, eqb, arith, inl, inr, refl, sym, ap, ◌∙◌}
use Rattle.std.specs.Int.{bit_at}
use Rattle.std.specs.Int.RustNames.{count_ones}
use Rattle.std.specs.List.{count_by, range_with_len}
use Rattle.std.proofs.lemmas.Bool.{cases_eq, eqb-true, eq-eqb}
use Rattle.std.proofs.lemmas.Nat.{ones_cat}
use Rattle.std.proofs.lemmas.Nat.Bits.{bit_at_lowest, bit_at-lt, bit_at-suc, same_from_bits}
use Rattle.std.proofs.lemmas.List.Sums.{sum_by-cons}
use Rattle.unroll.specs.Bits.{is_set}
use Rattle.known_planes.specs.Counts.{bits_in}
use Rattle.known_planes.proofs.Sums.{sum-agree, sum-moved}

-- words with the same bits are equal
pub same-words : (a b : ℕ) → ((i : ℕ) → is_set a i ≡ is_set b i) → a ≡ b
unfolding is_set
same-words a b same = same_from_bits a b (λ i. one (bit_at a i) (bit_at b i) (bit_at-lt a i) (bit_at-lt b i) (same i)) where
  one : (x y : ℕ) → x < 2 → y < 2 → eqb x 1 ≡ eqb y 1 → x ≡ y
  one x y few_x few_y e =
      elim (cases_eq x 1) [
        | inl h ↦ h ∙ sym (eqb-true y 1 (sym e ∙ eq-eqb x 1 h))
        | inr h ↦ elim (cases_eq y 1) [
          | inl k ↦ absurd (h (eqb-true x 1 (e ∙ eq-eqb y 1 k)))
          | inr k ↦ omega (arith, few_x, few_y, h, k)
        ]
      ]

digit : (n : ℕ) → n < 2 → count_ones n ≡ cond (eqb n 1) 1 0
unfolding count_ones
digit zero h = refl
digit (suc zero) h = refl
digit (suc (suc n)) h = absurd (omega arith)

lowest : (n : ℕ) → count_ones (n % 2) ≡ cond (is_set n 0) 1 0
unfolding is_set
lowest n = digit (n % 2) (omega arith) ∙ ap (λ m. cond (eqb m 1) 1 0) (sym (bit_at_lowest n))

half : (n i : ℕ) → is_set n (1 + i) ≡ is_set (n / 2) i
unfolding is_set
half n i = ap (λ m. eqb (bit_at n m) 1) (one-plus i) ∙ ap (λ m. eqb m 1) (bit_at-suc n i)
  where
    one-plus : (i : ℕ) → 1 + i ≡ suc i
    one-plus i = omega arith

no-ones : count_ones 0 ≡ 0
unfolding count_ones
no-ones = refl

pub ones-below : (k n : ℕ) → n < 2 ^ k → count_ones n ≡ count_by (is_set n) (range_with_len 0 k)
ones-below zero n h = ap count_ones (none n h) ∙ no-ones
  where
    none : (n : ℕ) → n < 1 → n ≡ 0
    none n h = omega arith
ones-below (suc k) n h =
    let split : n / 2 * 2 ^ 1 + n % 2 ≡ n = omega arith in
    let parts : count_ones (n / 2 * 2 ^ 1 + n % 2) ≡ count_ones (n / 2) + count_ones (n % 2) = ones_cat 1 (n / 2) (n % 2) (omega arith) in
    let rest : count_ones (n / 2) ≡ count_by (is_set (n / 2)) (range_with_len 0 k) = ones-below k (n / 2) (half-below k n h) in
    let later : count_by (is_set n) (range_with_len 1 k) ≡ count_by (is_set (n / 2)) (range_with_len 0 k) =
    sum-moved (λ i. cond (is_set n i) 1 0) 1 0 k ∙ sum-agree (λ i. cond (is_set n (1 + i)) 1 0) (λ i. cond (is_set (n / 2) i) 1 0) 0 k (λ i a b. ap (λ t. cond t 1 0) (half n i)) in
    let whole : count_by (is_set n) (range_with_len 0 (suc k)) ≡ cond (is_set n 0) 1 0 + count_by (is_set n) (range_with_len 1 k) = sum_by-cons (λ i. cond (is_set n i) 1 0) 0 (range_with_len 1 k) in
    sym (ap count_ones split) ∙ parts ∙ ap (λ m. m + count_ones (n % 2)) rest ∙ ap (λ m. count_by (is_set (n / 2)) (range_with_len 0 k) + m) (lowest n)
    ∙ plus-swap (count_by (is_set (n / 2)) (range_with_len 0 k)) (cond (is_set n 0) 1 0)
    ∙ ap (λ m. cond (is_set n 0) 1 0 + m) (sym later) ∙ sym whole
  where
    half-below : (k n : ℕ) → n < 2 ^ suc k → n / 2 < 2 ^ k
    half-below k n h = omega (arith, h)

    plus-swap : (m n : ℕ) → m + n ≡ n + m
    plus-swap m n = omega arith

pub ones-counted : (n : ℕ) → n < 2 ^ 64 → count_ones n ≡ bits_in n
unfolding bits_in
ones-counted n h = ones-below 64 n h
