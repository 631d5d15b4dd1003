-- The literals of one signal's words, chunk by chunk.
use Rattle.std.proofs.Common.{ℕ, ◌≡◌, ◌<◌, ◌+◌, ◌/◌, ◌||◌, ◌&&◌, true, List, ltb, eqb, arith, inl, inr, sym, ap, subst, ◌∙◌}
use Rattle.std.proofs.lemmas.Bool.{and_from, and_parts, cases_lt, eq-eqb, eqb-true, lt-ltb, ltb-true, or_cases, or_left, or_right}
use Rattle.sr_model.specs.declared.cells.Sig.{Sig}
use Rattle.sr_model.specs.Closure.{SameLits, passing}
use Rattle.unroll.specs.declared.words.PinWord.{PinWord}
use Rattle.unroll.specs.Bits.{is_set, word_for}
use Rattle.unroll.specs.Problem.{Unrolling, bit_of, block_at, block_of, chunk_at, chunks_in, sig_at}
use Rattle.unroll.proofs.lemmas.Laws.{block-chunk, block-sig, cycle-chunk}
use Rattle.known_planes.specs.Planes.{PlaneSet, Joins, has, has_bit, lits}
use Rattle.known_planes.specs.Rows.{row_has, row_words_at}
use Rattle.plain_close.specs.declared.worklist.Worklist.{Worklist}
use Rattle.plain_close.specs.Turns.{AddsRow, Wakes}
use Rattle.plain_close.proofs.Turning.{bit-has, has-bit_of, has-kept}

pub row-none : (u : Unrolling) (s : Sig) (row : List PinWord) (x : PlaneSet) → AddsRow u s row 0 x x
row-none u s row x = record { joined = λ chunk bit i early set. absurd (omega (arith, early)); only = λ b bit i h. inl h }

-- one chunk more
pub row-more : (u : Unrolling) (s : Sig) (row : List PinWord) (n : ℕ) (x y z : PlaneSet) → AddsRow u s row n x y → Joins (block_at u s n) (row_words_at row n) y z → AddsRow u s row (n + 1) x z
row-more u s row n x y z before step = record {
  joined = λ chunk bit i early set. elim (cases_lt chunk n) [
    | inl below ↦ step.kept (block_at u s chunk) bit i (before.joined chunk bit i below set)
    | inr past ↦
        let same : n ≡ chunk = omega (arith, past, early) in
        subst (λ k. has_bit z (block_at u s k) bit i ≡ true) same (step.joined bit i (ap (λ k. is_set (word_for bit (row_words_at row k)) i) same ∙ set))
  ];
  only = λ b bit i h. elim (step.only b bit i h) [
    | inl old ↦ elim (before.only b bit i old) [
      | inl first ↦ inl first
      | inr added ↦ inr (added.0, omega (arith, added.1), added.2, added.3)
    ]
    | inr new ↦ inr (n, omega arith, new.0, new.1)
  ];
}

-- the literals of the planes and of the row
pub added-row : (u : Unrolling) (s : Sig) (row : List PinWord) (x z : PlaneSet) (before after : Worklist) → Wakes u x z before after → AddsRow u s row (chunks_in u) x z
    → SameLits (lits u z) (passing (λ l. has u x l || row_has u s row l))
added-row u s row x z before after wakes adds = (
  λ l h.
      let parts : (l.cell.cycle < u.cycles) × (has_bit z (block_of u l.cell) l.bit (bit_of l.cell) ≡ true) = has-bit_of u z l h in
      elim (adds.only (block_of u l.cell) l.bit (bit_of l.cell) parts.1) [
        | inl old ↦ or_left (has u x l) (row_has u s row l) (bit-has u x l parts.0 old)
        | inr new ↦
            let in_chunk : l.cell.cycle / 64 < chunks_in u = cycle-chunk u l.cell.cycle parts.0 in
            let sig : l.cell.sig ≡ s = sym (block-sig u l.cell.sig (l.cell.cycle / 64) in_chunk) ∙ ap (sig_at u) new.2 ∙ block-sig u s new.0 new.1 in
            let chunk : l.cell.cycle / 64 ≡ new.0 = sym (block-chunk u l.cell.sig (l.cell.cycle / 64) in_chunk) ∙ ap (chunk_at u) new.2 ∙ block-chunk u s new.0 new.1 in
            or_right (has u x l) (row_has u s row l)
            (and_from (eqb l.cell.sig.0 s.0) (ltb l.cell.cycle u.cycles && is_set (word_for l.bit (row_words_at row (l.cell.cycle / 64))) (bit_of l.cell)) (eq-eqb l.cell.sig.0 s.0 (ap (λ (r : Sig). r.0) sig))
            (and_from (ltb l.cell.cycle u.cycles) (is_set (word_for l.bit (row_words_at row (l.cell.cycle / 64))) (bit_of l.cell)) (lt-ltb l.cell.cycle u.cycles parts.0)
            (ap (λ k. is_set (word_for l.bit (row_words_at row k)) (bit_of l.cell)) chunk ∙ new.3)))
      ],
  λ l h. elim (or_cases (has u x l) (row_has u s row l) h) [
    | inl old ↦ has-kept u x z wakes.bits l old
    | inr of_row ↦
        let parts = and_parts (eqb l.cell.sig.0 s.0) (ltb l.cell.cycle u.cycles && is_set (word_for l.bit (row_words_at row (l.cell.cycle / 64))) (bit_of l.cell)) of_row in
        let rest = and_parts (ltb l.cell.cycle u.cycles) (is_set (word_for l.bit (row_words_at row (l.cell.cycle / 64))) (bit_of l.cell)) parts.1 in
        let early : l.cell.cycle < u.cycles = ltb-true l.cell.cycle u.cycles rest.0 in
        let sig : s ≡ l.cell.sig = ap (λ n. record { 0 = n }) (sym (eqb-true l.cell.sig.0 s.0 parts.0)) in
        bit-has u z l early
        (subst (λ (r : Sig). has_bit z (block_at u r (l.cell.cycle / 64)) l.bit (bit_of l.cell) ≡ true) sig (adds.joined (l.cell.cycle / 64) l.bit (bit_of l.cell) (cycle-chunk u l.cell.cycle early) rest.1))
  ],
)
