-- The bits of words that are put together by bit operations.
use Rattle.std.proofs.Common.{ℕ, zero, suc, ◌≡◌, ◌+◌, ◌-◌, ◌*◌, ◌/◌, ◌%◌, ◌<◌, ◌≤◌, ◌^◌, ◌&&◌, ◌||◌, false, not, eqb, arith, refl, bit_and, bit_or, bit_xor, min, max, sym, ap, ◌∙◌}
use Rattle.std.specs.Int.{bit_at, bit_not, w64}
use Rattle.std.proofs.lemmas.Nat.Bits.{bit_at_and, bit_at_or, bit_at_xor, bit_at_not, bit_at-lt, bit_at-zero, bit_at_above, bit_at_cat_low, bit_at_cat_high}
use Rattle.std.proofs.lemmas.Nat.{pow_pos, div-add-mod', and_mask}
use Rattle.std.proofs.Math.Nat.{mod-lt}
use Rattle.sr_model.specs.XorLike.{plus}
use Rattle.unroll.specs.Bits.{is_set}

-- the test of a bit
pub tested : (word i : ℕ) → eqb (bit_and (word / 2 ^ i) 1) 1 ≡ is_set word i
unfolding is_set
tested word i = ap (λ n. eqb n 1) (and_mask (word / 2 ^ i) 1)

or-digits : (a b : ℕ) → a < 2 → b < 2 → eqb (max a b) 1 ≡ (eqb a 1 || eqb b 1)
or-digits zero zero p q = refl
or-digits zero (suc zero) p q = refl
or-digits (suc zero) zero p q = refl
or-digits (suc zero) (suc zero) p q = refl
or-digits (suc (suc a)) b p q = absurd (omega arith)
or-digits zero (suc (suc b)) p q = absurd (omega arith)
or-digits (suc zero) (suc (suc b)) p q = absurd (omega arith)

and-digits : (a b : ℕ) → a < 2 → b < 2 → eqb (min a b) 1 ≡ (eqb a 1 && eqb b 1)
and-digits zero zero p q = refl
and-digits zero (suc zero) p q = refl
and-digits (suc zero) zero p q = refl
and-digits (suc zero) (suc zero) p q = refl
and-digits (suc (suc a)) b p q = absurd (omega arith)
and-digits zero (suc (suc b)) p q = absurd (omega arith)
and-digits (suc zero) (suc (suc b)) p q = absurd (omega arith)

not-digit : (a : ℕ) → a < 2 → eqb (1 - a) 1 ≡ not (eqb a 1)
not-digit zero p = refl
not-digit (suc zero) p = refl
not-digit (suc (suc a)) p = absurd (omega arith)

xor-digits : (a b : ℕ) → a < 2 → b < 2 → eqb ((a + b) % 2) 1 ≡ plus (eqb a 1) (eqb b 1)
xor-digits zero zero p q = refl
xor-digits zero (suc zero) p q = refl
xor-digits (suc zero) zero p q = refl
xor-digits (suc zero) (suc zero) p q = refl
xor-digits (suc (suc a)) b p q = absurd (omega arith)
xor-digits zero (suc (suc b)) p q = absurd (omega arith)
xor-digits (suc zero) (suc (suc b)) p q = absurd (omega arith)

pub is_set_or : (a b i : ℕ) → is_set (bit_or a b) i ≡ (is_set a i || is_set b i)
unfolding is_set
is_set_or a b i = ap (λ n. eqb n 1) (bit_at_or a b i) ∙ or-digits (bit_at a i) (bit_at b i) (bit_at-lt a i) (bit_at-lt b i)

pub is_set_and : (a b i : ℕ) → is_set (bit_and a b) i ≡ (is_set a i && is_set b i)
unfolding is_set
is_set_and a b i = ap (λ n. eqb n 1) (bit_at_and a b i) ∙ and-digits (bit_at a i) (bit_at b i) (bit_at-lt a i) (bit_at-lt b i)

pub is_set_xor : (a b i : ℕ) → is_set (bit_xor a b) i ≡ plus (is_set a i) (is_set b i)
unfolding is_set
is_set_xor a b i = ap (λ n. eqb n 1) (bit_at_xor a b i) ∙ xor-digits (bit_at a i) (bit_at b i) (bit_at-lt a i) (bit_at-lt b i)

pub is_set_not : (a i : ℕ) → a < 2 ^ 64 → i < 64 → is_set (bit_not w64 a) i ≡ not (is_set a i)
unfolding is_set
is_set_not a i small within = ap (λ n. eqb n 1) (bit_at_not w64 a i small within) ∙ not-digit (bit_at a i) (bit_at-lt a i)

pub is_set_zero : (i : ℕ) → is_set 0 i ≡ false
unfolding is_set
is_set_zero i = ap (λ n. eqb n 1) (bit_at-zero i)

-- the lower bits of a number's remainder by a power of 2 are its own
bit_below : (n w i : ℕ) → i < w → bit_at (n % 2 ^ w) i ≡ bit_at n i
bit_below n w i below = sym (bit_at_cat_low (n / 2 ^ w) w (n % 2 ^ w) i below) ∙ ap (λ m. bit_at m i) (div-add-mod' n (2 ^ w))

plus-zero : (n : ℕ) → n ≡ n + 0
plus-zero n = omega arith

-- shifted to the left
pub is_set_shl_low : (a k i : ℕ) → i < 64 → i < k → is_set (a * 2 ^ k % 2 ^ 64) i ≡ false
unfolding is_set
is_set_shl_low a k i within low =
    ap (λ n. eqb n 1) (bit_below (a * 2 ^ k) 64 i within ∙ ap (λ n. bit_at n i) (plus-zero (a * 2 ^ k)) ∙ bit_at_cat_low a k 0 i low ∙ bit_at-zero i)

pub is_set_shl_high : (a k i : ℕ) → i < 64 → k ≤ i → is_set (a * 2 ^ k % 2 ^ 64) i ≡ is_set a (i - k)
unfolding is_set
is_set_shl_high a k i within high =
    ap (λ n. eqb n 1) (bit_below (a * 2 ^ k) 64 i within ∙ ap (λ n. bit_at n i) (plus-zero (a * 2 ^ k)) ∙ bit_at_cat_high a k 0 i (pow_pos k) high)

-- shifted to the right
pub is_set_shr : (a k i : ℕ) → is_set (a / 2 ^ k) i ≡ is_set a (i + k)
unfolding is_set
is_set_shr a k i =
    ap (λ n. eqb n 1)
    (ap (bit_at (a / 2 ^ k)) (back i k) ∙ sym (bit_at_cat_high (a / 2 ^ k) k (a % 2 ^ k) (i + k) (mod-lt a (pow_pos k)) (omega arith))
    ∙ ap (λ n. bit_at n (i + k)) (div-add-mod' a (2 ^ k)))
  where
    back : (m n : ℕ) → m ≡ m + n - n
    back m n = omega arith

-- a word has no bit from 64 on
pub is_set_above : (a i : ℕ) → a < 2 ^ 64 → 64 ≤ i → is_set a i ≡ false
unfolding is_set
is_set_above a i small above = ap (λ n. eqb n 1) (bit_at_above a 64 i small above)
