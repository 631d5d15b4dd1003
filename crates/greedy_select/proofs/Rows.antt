-- The words of a signal, chunk by chunk, are the literals of its trace.
use Rattle.std.specs.Prelude.{nat_lt}
use Rattle.std.proofs.Common.{ℕ, ◌≡◌, ◌+◌, ◌*◌, ◌/◌, ◌%◌, ◌<◌, ◌≤◌, ◌&&◌, ◌||◌, Bool, true, false, eqb, List, [], ◌∷◌, ◌++◌, length, Some, slice_get, arith, inl, inr, refl, sym, ap, subst, ◌∙◌}
use Rattle.std.proofs.lemmas.Bool.{cases_eq, cases_lt, lt-ltb, le-ltb, eq-eqb, ne_eqb, eqb-true, ltb-true, and_parts, and_from, true≢false}
use Rattle.std.proofs.lemmas.List.{get_or_append_left, get_or_push, length_push}
use Rattle.std.proofs.lemmas.List.FromFn.{length-map-range_with_len}
use Rattle.std.proofs.lemmas.Option.{slice_get_past}
use Rattle.sr_model.specs.declared.cells.Sig.{Sig}
use Rattle.sr_model.specs.declared.cells.Lit.{Lit}
use Rattle.sr_model.specs.Dump.{dump_has, is_bit}
use Rattle.sr_model.specs.Netlist.{Valuation, cell_at}
use Rattle.sr_model.specs.Closure.{IsWithin, passing}
use Rattle.unroll.specs.declared.words.PinWord.{PinWord}
use Rattle.unroll.specs.Bits.{is_set, no_words, word_for}
use Rattle.unroll.specs.Problem.{Unrolling, HasNoLaterBit, block_at, block_of, bit_of, chunks_in}
use Rattle.unroll.proofs.lemmas.Laws.{cycle-chunk}
use Rattle.cycle_sim.specs.Simulation.{traced_row, traced_rows}
use Rattle.known_planes.specs.Planes.{PlaneSet, has_bit, lits}
use Rattle.known_planes.specs.Rows.{IsRow, row_has, row_words_at}

-- the words have the bits of the signal's trace in a chunk
abbrev pub HasBits : Valuation → ℕ → Sig → ℕ → PinWord → Type 0
HasBits v cycles s chunk w = (bit : Bool) (i : ℕ) → i < 64 → is_set (word_for bit w) i ≡ is_bit (slice_get (traced_row v cycles s).bits (64 * chunk + i)) bit

-- and so for the first chunks
pub record HasFirst (v : Valuation) (cycles : ℕ) (s : Sig) (row : List PinWord) (chunks : ℕ) : Type 0 where
  pub size : length row ≡ chunks
  pub bits : (chunk : ℕ) → chunk < chunks → HasBits v cycles s chunk (row_words_at row chunk)

pub first-none : (v : Valuation) (cycles : ℕ) (s : Sig) (row : List PinWord) → row ≡ [] → HasFirst v cycles s row 0
first-none v cycles s row none = record { size = ap length none; bits = λ chunk h. absurd (omega (arith, h)) }

-- a chunk more
pub first-more : (v : Valuation) (cycles : ℕ) (s : Sig) (row new : List PinWord) (chunk : ℕ) (w : PinWord) → new ≡ row ++ w ∷ [] → HasBits v cycles s chunk w → HasFirst v cycles s row chunk
    → HasFirst v cycles s new (chunk + 1)
first-more v cycles s row new chunk w is bits before = record {
  size = ap length is ∙ length_push row w ∙ ap (λ n. n + 1) before.size;
  bits = λ k h. subst (λ xs. HasBits v cycles s k (row_words_at xs k)) (sym is) (elim (cases_eq k chunk) [
    | inl same ↦
        subst (HasBits v cycles s k) (sym (get_or_push row w no_words k (before.size ∙ sym same))) (subst (λ n. HasBits v cycles s n w) (sym same) bits)
    | inr other ↦
        let early : k < chunk = omega (arith, h, other) in
        subst (HasBits v cycles s k) (sym (get_or_append_left row (w ∷ []) no_words k (omega (arith, early, before.size)))) (before.bits k early)
  ]);
}

-- the trace has no bit past its last cycle
late : (v : Valuation) (cycles : ℕ) (s : Sig) (t : ℕ) (bit : Bool) → cycles ≤ t → is_bit (slice_get (traced_row v cycles s).bits t) bit ≡ false
late v cycles s t bit h =
    let size : length (traced_row v cycles s).bits ≡ cycles = length-map-range_with_len (λ cycle. Some (v (cell_at cycle s))) 0 cycles in
    ap (λ x. is_bit x bit) (slice_get_past (traced_row v cycles s).bits t (omega (arith, size, h)))

module _ (u : Unrolling) (v : Valuation) (s : Sig) (row : List PinWord) (all : HasFirst v u.cycles s row (chunks_in u)) where
  pub is-row : IsRow u row
  is-row = record { size = all.size; no_later = none } where
    none : (chunk : ℕ) → chunk < chunks_in u → HasNoLaterBit u.cycles chunk (row_words_at row chunk)
    none chunk h bit i few set =
        elim (cases_lt (64 * chunk + i) u.cycles) [
          | inl early ↦ lt-ltb (64 * chunk + i) u.cycles early
          | inr past ↦ absurd (true≢false (sym set ∙ all.bits chunk h bit i few ∙ late v u.cycles s (64 * chunk + i) bit past))
        ]

  at : (l : Lit) → (nat_lt l.cell.cycle u.cycles && is_set (word_for l.bit (row_words_at row (l.cell.cycle / 64))) (bit_of l.cell)) ≡ is_bit (slice_get (traced_row v u.cycles s).bits l.cell.cycle) l.bit
  at l =
      elim (cases_lt l.cell.cycle u.cycles) [
        | inl early ↦
            ap (λ b. b && is_set (word_for l.bit (row_words_at row (l.cell.cycle / 64))) (bit_of l.cell)) (lt-ltb l.cell.cycle u.cycles early)
            ∙ all.bits (l.cell.cycle / 64) (cycle-chunk u l.cell.cycle early) l.bit (bit_of l.cell) (small l.cell.cycle)
            ∙ ap (λ n. is_bit (slice_get (traced_row v u.cycles s).bits n) l.bit) (whole l.cell.cycle)
        | inr past ↦
            ap (λ b. b && is_set (word_for l.bit (row_words_at row (l.cell.cycle / 64))) (bit_of l.cell)) (le-ltb l.cell.cycle u.cycles past)
            ∙ sym (late v u.cycles s l.cell.cycle l.bit past)
      ]
    where
      whole : (n : ℕ) → 64 * (n / 64) + n % 64 ≡ n
      whole n = omega arith

      small : (n : ℕ) → n % 64 < 64
      small n = omega arith

  pub is-trace : (l : Lit) → row_has u s row l ≡ dump_has (traced_rows v u.cycles (s ∷ [])) l
  is-trace l = ap (λ b. (eqb l.cell.sig.0 s.0) && b) (at l) ∙ ap (λ b. b && is_bit (slice_get (traced_row v u.cycles s).bits l.cell.cycle) l.bit) (turned l.cell.sig.0 s.0) ∙ alone ((eqb s.0 l.cell.sig.0) && is_bit (slice_get (traced_row v u.cycles s).bits l.cell.cycle) l.bit)
    where
      turned : (a b : ℕ) → eqb a b ≡ eqb b a
      turned a b = elim (cases_eq a b) [ inl same ↦ eq-eqb a b same ∙ sym (eq-eqb b a (sym same)) | inr other ↦ ne_eqb a b other ∙ sym (ne_eqb b a (λ e. other (sym e))) ]

      alone : (b : Bool) → b ≡ (b || false)
      alone true = refl
      alone false = refl

-- the planes have the literals of the first chunks
abbrev pub HaveFirst : Unrolling → PlaneSet → Sig → List PinWord → ℕ → Type 0
HaveFirst u planes s row chunks = (chunk : ℕ) → chunk < chunks → (bit : Bool) (i : ℕ) → is_set (word_for bit (row_words_at row chunk)) i ≡ true → has_bit planes (block_at u s chunk) bit i ≡ true

pub have-more : (u : Unrolling) (planes : PlaneSet) (s : Sig) (row : List PinWord) (chunk : ℕ) → HaveFirst u planes s row chunk
    → ((bit : Bool) (i : ℕ) → is_set (word_for bit (row_words_at row chunk)) i ≡ true → has_bit planes (block_at u s chunk) bit i ≡ true) → HaveFirst u planes s row (chunk + 1)
have-more u planes s row chunk before here k h bit i set =
    elim (cases_eq k chunk) [
      | inl same ↦ subst (λ n. has_bit planes (block_at u s n) bit i ≡ true) (sym same) (here bit i (subst (λ n. is_set (word_for bit (row_words_at row n)) i ≡ true) same set))
      | inr other ↦ before k (omega (arith, h, other)) bit i set
    ]

-- and so all of the row
pub have-all : (u : Unrolling) (planes : PlaneSet) (s : Sig) (row : List PinWord) (chunks : ℕ) → chunks_in u ≤ chunks → HaveFirst u planes s row chunks → IsWithin (passing (row_has u s row)) (lits u planes)
have-all u planes s row chunks all have l there =
    let parts : (eqb l.cell.sig.0 s.0 ≡ true) × ((nat_lt l.cell.cycle u.cycles && is_set (word_for l.bit (row_words_at row (l.cell.cycle / 64))) (bit_of l.cell)) ≡ true) = and_parts (eqb l.cell.sig.0 s.0) _ there in
    let rest : (nat_lt l.cell.cycle u.cycles ≡ true) × (is_set (word_for l.bit (row_words_at row (l.cell.cycle / 64))) (bit_of l.cell) ≡ true) = and_parts (nat_lt l.cell.cycle u.cycles) _ parts.1 in
    let early : l.cell.cycle / 64 < chunks_in u = cycle-chunk u l.cell.cycle (ltb-true l.cell.cycle u.cycles rest.0) in
    let sig : s.0 ≡ l.cell.sig.0 = sym (eqb-true l.cell.sig.0 s.0 parts.0) in
    and_from (nat_lt l.cell.cycle u.cycles) (has_bit planes (block_of u l.cell) l.bit (bit_of l.cell)) rest.0
    (subst (λ n. has_bit planes (record { 0 = n * chunks_in u + l.cell.cycle / 64 }) l.bit (bit_of l.cell) ≡ true) sig (have (l.cell.cycle / 64) (omega (arith, early, all)) l.bit (bit_of l.cell) rest.1))
