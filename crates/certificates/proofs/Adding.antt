-- A literal that is added to planes.
use Rattle.std.proofs.Common.{◌≡◌, ◌↔◌, ◌⊎◌, ℕ, ◌+◌, ◌*◌, ◌/◌, ◌%◌, ◌^◌, ◌<◌, Bool, true, not, sym, ap, subst, ◌∙◌, inl, inr, arith}
use Rattle.std.specs.Prelude.{IsTrue, nat_lt}
use Rattle.std.proofs.lemmas.Bool.{and_from, and_parts, lt-ltb, ltb-true, true≢false}
use Rattle.std.proofs.Math.Nat.{mod-eq_of_lt}
use Rattle.std.proofs.Math.Pow.{pow-lt}
use Rattle.sr_model.specs.declared.cells.Lit.{Lit}
use Rattle.sr_model.specs.Closure.{lit}
use Rattle.sr_model.proofs.lemmas.AndRules.{bit_cases}
use Rattle.unroll.specs.declared.words.PinWord.{PinWord}
use Rattle.unroll.specs.Bits.{is_set, word_for}
use Rattle.unroll.specs.Problem.{Unrolling, HasNoLaterBit, block_of, bit_of, cell_of}
use Rattle.unroll.proofs.lemmas.Laws.{bit-small, cell-itself}
use Rattle.unroll.proofs.lemmas.Words.{alone-only, alone-set, is_set_zero}
use Rattle.known_planes.specs.Planes.{PlaneSet, Joins, has, has_bit}

-- the word of one bit, as it is shifted there
pub one-bit : (k : ℕ) → k < 64 → 1 * 2 ^ k % 18446744073709551616 ≡ 2 ^ k
one-bit k few =
    let small : 2 ^ k < 2 ^ 64 = pow-lt few in
    ap (λ n. n % 18446744073709551616) (one-times (2 ^ k)) ∙ mod-eq_of_lt small
  where
    one-times : (n : ℕ) → 1 * n ≡ n
    one-times n = omega arith

module _ (u : Unrolling) (l : Lit) (early : l.cell.cycle < u.cycles) (words : PinWord) (own : word_for l.bit words ≡ 1 * 2 ^ (bit_of l.cell) % 18446744073709551616)
    (other : word_for (not l.bit) words ≡ 0) where
  own-bit : word_for l.bit words ≡ 2 ^ bit_of l.cell
  own-bit = own ∙ one-bit (bit_of l.cell) (bit-small l.cell)

  -- the words have the literal's bit alone
  only-bit : (bit : Bool) (i : ℕ) → is_set (word_for bit words) i ≡ true → (bit ≡ l.bit) × (i ≡ bit_of l.cell)
  only-bit bit i set =
      elim (bit_cases bit l.bit) [
        | inl same ↦ (same, alone-only (bit_of l.cell) i (ap (λ n. is_set n i) (sym own-bit) ∙ ap (λ b. is_set (word_for b words) i) (sym same) ∙ set))
        | inr differ ↦ absurd (true≢false (sym set ∙ ap (λ b. is_set (word_for b words) i) differ ∙ ap (λ n. is_set n i) other ∙ is_set_zero i))
      ]

  pub no-later : HasNoLaterBit u.cycles (l.cell.cycle / 64) words
  no-later bit i few set =
      let whole : 64 * (l.cell.cycle / 64) + i ≡ l.cell.cycle = ap (λ n. 64 * (l.cell.cycle / 64) + n) (only-bit bit i set).1 ∙ again l.cell.cycle in
      lt-ltb (64 * (l.cell.cycle / 64) + i) u.cycles (subst (λ n. n < u.cycles) (sym whole) early)
    where
      again : (n : ℕ) → 64 * (n / 64) + n % 64 ≡ n
      again n = omega arith

  -- so planes that are joined with them have it too, and no others more
  pub added : (old new : PlaneSet) → Joins (block_of u l.cell) words old new → (m : Lit) → IsTrue (has u new m) ↔ (IsTrue (has u old m) ⊎ (l ≡ m))
  added old new joins m = (
    λ h.
        let parts = and_parts (nat_lt m.cell.cycle u.cycles) (has_bit new (block_of u m.cell) m.bit (bit_of m.cell)) h in
        let in_time : m.cell.cycle < u.cycles = ltb-true m.cell.cycle u.cycles parts.0 in
        elim (joins.only (block_of u m.cell) m.bit (bit_of m.cell) parts.1) [
          | inl was ↦ inl (and_from (nat_lt m.cell.cycle u.cycles) (has_bit old (block_of u m.cell) m.bit (bit_of m.cell)) parts.0 was)
          | inr (block, set) ↦
              let only = only-bit m.bit (bit_of m.cell) set in
              let cell : l.cell ≡ m.cell =
              sym (cell-itself u l.cell early) ∙ ap (λ b. cell_of u b (bit_of l.cell)) (sym block) ∙ ap (cell_of u (block_of u m.cell)) (sym only.1) ∙ cell-itself u m.cell in_time in
              inr (ap (λ c. lit c l.bit) cell ∙ ap (lit m.cell) (sym only.0))
        ],
    λ h. elim h [
      | inl was ↦
          let parts = and_parts (nat_lt m.cell.cycle u.cycles) (has_bit old (block_of u m.cell) m.bit (bit_of m.cell)) was in
          and_from (nat_lt m.cell.cycle u.cycles) (has_bit new (block_of u m.cell) m.bit (bit_of m.cell)) parts.0 (joins.kept (block_of u m.cell) m.bit (bit_of m.cell) parts.1)
      | inr same ↦ subst (λ (x : Lit). IsTrue (has u new x)) same (
          and_from (nat_lt l.cell.cycle u.cycles) (has_bit new (block_of u l.cell) l.bit (bit_of l.cell)) (lt-ltb l.cell.cycle u.cycles early)
          (joins.joined l.bit (bit_of l.cell) (ap (λ n. is_set n (bit_of l.cell)) own-bit ∙ alone-set (bit_of l.cell))))
    ],
  )
