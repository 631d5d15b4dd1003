-- Words whose lowest bits are set, all of them, or one.
use Rattle.std.proofs.Common.{ℕ, ◌≡◌, ◌<◌, ◌≤◌, ◌-◌, ◌*◌, ◌%◌, ◌^◌, true, eqb, ltb, arith, inl, inr, sym, ap, ◌∙◌}
use Rattle.std.proofs.lemmas.Bool.{cases_eq, cases_lt, lt-ltb, le-ltb, true≢false}
use Rattle.std.proofs.lemmas.Nat.Bits.{bit_at_ones, bit_at_ones_above, bit_at-pow_same, bit_at-pow_other}
use Rattle.std.proofs.Math.Pow.{pow-lt}
use Rattle.std.proofs.Math.Nat.{mod-eq_of_lt}
use Rattle.unroll.specs.Bits.{is_set}

ones-below : (k i : ℕ) → is_set (2 ^ k - 1) i ≡ ltb i k
unfolding is_set
ones-below k i =
    elim (cases_lt i k) [
      | inl h ↦ ap (λ n. eqb n 1) (bit_at_ones k i h) ∙ sym (lt-ltb i k h)
      | inr h ↦ ap (λ n. eqb n 1) (bit_at_ones_above k i h) ∙ sym (le-ltb i k h)
    ]

-- fewer than 64 bits
pub low : (k i : ℕ) → k < 64 → is_set (1 * 2 ^ k % 18446744073709551616 - 1) i ≡ ltb i k
low k i few =
    let small : 2 ^ k < 2 ^ 64 = pow-lt few in
    let same : 1 * 2 ^ k % 18446744073709551616 ≡ 2 ^ k = ap (λ n. n % 18446744073709551616) (one-times (2 ^ k)) ∙ mod-eq_of_lt small in
    ap (λ n. is_set (n - 1) i) same ∙ ones-below k i
  where
    one-times : (n : ℕ) → 1 * n ≡ n
    one-times n = omega arith

-- all bits
pub all-set : (i : ℕ) → i < 64 → is_set 18446744073709551615 i ≡ true
all-set i within = ones-below 64 i ∙ lt-ltb i 64 within

pub full : (k i : ℕ) → 64 ≤ k → i < 64 → is_set 18446744073709551615 i ≡ ltb i k
full k i many within = all-set i within ∙ sym (lt-ltb i k (omega arith))

-- one bit
pub alone-set : (k : ℕ) → is_set (2 ^ k) k ≡ true
unfolding is_set
alone-set k = ap (λ n. eqb n 1) (bit_at-pow_same k)

pub alone-only : (k i : ℕ) → is_set (2 ^ k) i ≡ true → i ≡ k
unfolding is_set
alone-only k i set =
    elim (cases_eq i k) [
      | inl same ↦ same
      | inr other ↦ absurd (true≢false (sym set ∙ ap (λ n. eqb n 1) (bit_at-pow_other k i other)))
    ]
