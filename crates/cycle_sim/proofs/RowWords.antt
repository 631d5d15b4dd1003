-- The bits of up to 64 cycles in two words.
use Rattle.std.proofs.Common.{ℕ, ◌≡◌, ◌+◌, ◌-◌, ◌*◌, ◌%◌, ◌<◌, ◌≤◌, ◌⊎◌, ◌^◌, ◌&&◌, ◌||◌, Bool, true, false, eqb, ltb, length, None, arith, inl, inr, sym, ap, refl, bit_or, Some, slice_get, ◌∙◌}
use Rattle.std.specs.Int.{bit_at}
use Rattle.std.proofs.lemmas.Bool.{cases_eq, cases_lt, cases_order, lt-ltb, le-ltb, eq-eqb, ne_eqb}
use Rattle.std.proofs.lemmas.List.FromFn.{get_or-map-range_with_len, length-map-range_with_len}
use Rattle.std.proofs.lemmas.Nat.{one_shl}
use Rattle.std.proofs.lemmas.Nat.Bits.{bit_at-pow_same, bit_at-pow_other}
use Rattle.std.proofs.lemmas.Option.{slice_get-get_or, slice_get_past}
use Rattle.sr_model.specs.declared.cells.Sig.{Sig}
use Rattle.sr_model.specs.Dump.{is_bit}
use Rattle.sr_model.specs.Netlist.{Valuation, cell_at}
use Rattle.unroll.specs.declared.words.PinWord.{PinWord}
use Rattle.unroll.specs.Bits.{is_set, word_for, no_words}
use Rattle.unroll.proofs.lemmas.Words.{is_set_or, is_set_zero}
use Rattle.cycle_sim.specs.Simulation.{traced_row}

-- the bit is this one
abbrev pub is : Bool → Bool → Bool
is found bit = is_bit (Some (Some found)) bit

-- the words have the first k bits
abbrev pub HasFirst : (ℕ → Bool) → ℕ → PinWord → Type 0
HasFirst f k w = (bit : Bool) (i : ℕ) → is_set (word_for bit w) i ≡ (ltb i k && is (f i) bit)

-- the word with one bit
one-bit : (k i : ℕ) → k < 64 → is_set (1 * 2 ^ k % 2 ^ 64) i ≡ eqb i k
unfolding is_set
one-bit k i few =
    ap (λ n. eqb (bit_at n i) 1) (one_shl k 64 few) ∙ elim (cases_eq i k) [
      | inl same ↦ ap (λ n. eqb (bit_at (2 ^ k) n) 1) same ∙ ap (λ n. eqb n 1) (bit_at-pow_same k) ∙ sym (eq-eqb i k same)
      | inr other ↦ ap (λ n. eqb n 1) (bit_at-pow_other k i other) ∙ sym (ne_eqb i k other)
    ]

or-false : (b : Bool) → (b || false) ≡ b
or-false true = refl
or-false false = refl

and-false : (b : Bool) → (b && false) ≡ false
and-false true = refl
and-false false = refl

-- one bit more: it is joined, or it is the other one
joined-more : (i k : ℕ) (x : Bool) → (i ≡ k → x ≡ true) → ((ltb i k && x) || eqb i k) ≡ (ltb i (k + 1) && x)
joined-more i k x there =
    elim (cases_order i k) [
      | inl same ↦
          let a : ltb i k ≡ false = le-ltb i k (omega arith) in
          let b : ltb i (k + 1) ≡ true = lt-ltb i (k + 1) (omega arith) in
          let e : eqb i k ≡ true = eq-eqb i k same in
          let x_is : x ≡ true = there same in
          cc
      | inr (inl below) ↦
          let a : ltb i k ≡ true = lt-ltb i k below in
          let b : ltb i (k + 1) ≡ true = lt-ltb i (k + 1) (omega arith) in
          let e : eqb i k ≡ false = ne_eqb i k (λ same. omega arith) in
          ap (λ t. (t && x) || eqb i k) a ∙ ap (λ t. x || t) e ∙ or-false x ∙ sym (ap (λ t. t && x) b)
      | inr (inr above) ↦
          let a : ltb i k ≡ false = le-ltb i k (omega arith) in
          let b : ltb i (k + 1) ≡ false = le-ltb i (k + 1) (omega arith) in
          let e : eqb i k ≡ false = ne_eqb i k (λ same. omega arith) in
          ap (λ t. (t && x) || eqb i k) a ∙ e ∙ sym (ap (λ t. t && x) b)
    ]

left-more : (i k : ℕ) (x : Bool) → (i ≡ k → x ≡ false) → (ltb i k && x) ≡ (ltb i (k + 1) && x)
left-more i k x there =
    elim (cases_order i k) [
      | inl same ↦ ap (λ t. ltb i k && t) (there same) ∙ and-false (ltb i k) ∙ sym (ap (λ t. ltb i (k + 1) && t) (there same) ∙ and-false (ltb i (k + 1)))
      | inr (inl below) ↦ ap (λ t. t && x) (lt-ltb i k below) ∙ sym (ap (λ t. t && x) (lt-ltb i (k + 1) (omega arith)))
      | inr (inr above) ↦ ap (λ t. t && x) (le-ltb i k (omega arith)) ∙ sym (ap (λ t. t && x) (le-ltb i (k + 1) (omega arith)))
    ]

module _ (f : ℕ → Bool) (k : ℕ) (w : PinWord) (few : k < 64) (first : HasFirst f k w) where
  join-bit : (bit : Bool) → is (f k) bit ≡ true → (i : ℕ) → is_set (bit_or (word_for bit w) (1 * 2 ^ k % 2 ^ 64)) i ≡ (ltb i (k + 1) && is (f i) bit)
  join-bit bit there i =
      is_set_or (word_for bit w) (1 * 2 ^ k % 2 ^ 64) i
      ∙ ap (λ t. t || is_set (1 * 2 ^ k % 2 ^ 64) i) (first bit i)
      ∙ ap (λ t. (ltb i k && is (f i) bit) || t) (one-bit k i few)
      ∙ joined-more i k (is (f i) bit) (λ same. ap (λ n. is (f n) bit) same ∙ there)

  leave-bit : (bit : Bool) → is (f k) bit ≡ false → (i : ℕ) → is_set (word_for bit w) i ≡ (ltb i (k + 1) && is (f i) bit)
  leave-bit bit there i = first bit i ∙ left-more i k (is (f i) bit) (λ same. ap (λ n. is (f n) bit) same ∙ there)

  pub zero-more : f k ≡ false → HasFirst f (k + 1) (record { zero = bit_or w.zero (1 * 2 ^ k % 2 ^ 64); one = w.one })
  zero-more found false i = join-bit false (ap (λ b. is b false) found) i
  zero-more found true i = leave-bit true (ap (λ b. is b true) found) i

  pub one-more : f k ≡ true → HasFirst f (k + 1) (record { zero = w.zero; one = bit_or w.one (1 * 2 ^ k % 2 ^ 64) })
  one-more found false i = leave-bit false (ap (λ b. is b false) found) i
  one-more found true i = join-bit true (ap (λ b. is b true) found) i

-- no bit
pub has-none : (f : ℕ → Bool) → HasFirst f 0 no_words
has-none f true i = is_set_zero i ∙ sym (ap (λ t. t && is (f i) true) (le-ltb i 0 (omega arith)))
has-none f false i = is_set_zero i ∙ sym (ap (λ t. t && is (f i) false) (le-ltb i 0 (omega arith)))

-- all bits of the chunk are those of the traced row
pub has-all : (v : Valuation) (cycles start k : ℕ) (s : Sig) (w : PinWord) → (64 ≤ k) ⊎ (cycles - start ≤ k) → k ≤ cycles - start → HasFirst (λ i. v (cell_at (start + i) s)) k w
    → (bit : Bool) (i : ℕ) → i < 64 → is_set (word_for bit w) i ≡ is_bit (slice_get (traced_row v cycles s).bits (start + i)) bit
has-all v cycles start k s w all few first bit i within =
    first bit i ∙ elim (cases_lt i k) [
      | inl h ↦ ap (λ t. t && is (v (cell_at (start + i) s)) bit) (lt-ltb i k h) ∙ sym (ap (λ x. is_bit x bit) (there (start + i) (omega (arith, few, h))))
      | inr h ↦ ap (λ t. t && is (v (cell_at (start + i) s)) bit) (le-ltb i k h) ∙ sym (ap (λ x. is_bit x bit) (past (start + i) (behind all h)))
    ]
  where
    behind : (64 ≤ k) ⊎ (cycles - start ≤ k) → k ≤ i → cycles ≤ start + i
    behind (inl full) h = absurd (omega (arith, full, h, within))
    behind (inr end) h = omega (arith, end, h)

    size : length (traced_row v cycles s).bits ≡ cycles
    size = length-map-range_with_len (λ cycle. Some (v (cell_at cycle s))) 0 cycles

    there : (t : ℕ) → t < cycles → slice_get (traced_row v cycles s).bits t ≡ Some (Some (v (cell_at t s)))
    there t h =
        slice_get-get_or (traced_row v cycles s).bits t (Some (v (cell_at t s))) (omega (arith, size, h))
        ∙ ap Some (get_or-map-range_with_len (λ cycle. Some (v (cell_at cycle s))) 0 cycles t t (Some (v (cell_at t s))) h (omega arith))

    past : (t : ℕ) → cycles ≤ t → slice_get (traced_row v cycles s).bits t ≡ None
    past t h = slice_get_past (traced_row v cycles s).bits t (omega (arith, size, h))
