-- Cells of which planes have both literals, by signal, chunk and bit.
use Rattle.std.proofs.Common.{ℕ, ◌≡◌, ◌+◌, ◌*◌, ◌/◌, ◌%◌, ◌<◌, ◌≤◌, ◌↔◌, ◌^◌, ◌&&◌, ◌||◌, true, false, eqb, arith, inl, inr, sym, ap, subst, bit_or, ◌∙◌}
use Rattle.std.specs.Int.{bit_at, trailing_zeros, w64}
use Rattle.std.specs.Prelude.{IsTrue, nat_lt}
use Rattle.std.proofs.lemmas.Bool.{cases_eq, cases_lt, cases_order, and_parts, and_from, or_cases, or_left, or_right, true≢false}
use Rattle.std.proofs.lemmas.Nat.Bits.{bit_at-trailing_zeros}
use Rattle.sr_model.specs.declared.cells.Sig.{Sig}
use Rattle.sr_model.specs.declared.cells.Cell.{Cell}
use Rattle.sr_model.specs.Order.{CellLe}
use Rattle.sr_model.specs.Closure.{HasBoth, IsLeastClash, lit}
use Rattle.unroll.specs.declared.words.PinWord.{PinWord}
use Rattle.unroll.specs.Bits.{is_set}
use Rattle.unroll.specs.Problem.{Unrolling, signals_in, chunks_in, block_of, bit_of}
use Rattle.unroll.proofs.lemmas.Words.{is_set_or, is_set_zero}
use Rattle.unroll.proofs.lemmas.Laws.{cycle-chunk}
use Rattle.known_planes.specs.Planes.{PlaneSet, words_at, pair_in, lits, IsOf}
use Rattle.known_planes.specs.Clash.{has_both_at, lits_in_chunk}
use Rattle.known_planes.proofs.Members.{in-block}
use Rattle.known_planes.proofs.PlanesLaws.{literals_are_of_cells}
use Rattle.known_planes.proofs.SignalCounts.{bit-has}

-- the bits of a word are those that one of the first signals has in both words of the chunk
abbrev pub HasEach : PlaneSet → ℕ → ℕ → ℕ → Type 0
HasEach planes chunk signals both = (i : ℕ) → IsTrue (is_set both i) ↔ ((s : ℕ) × (s < signals) × IsTrue (has_both_at planes s chunk i))

pub each-none : (planes : PlaneSet) (chunk : ℕ) → HasEach planes chunk 0 0
each-none planes chunk i = ((λ set. absurd (true≢false (sym set ∙ is_set_zero i))), (λ found. absurd (omega (arith, found.1))))

pub each-more : (planes : PlaneSet) (chunk signals both more : ℕ) (w : PinWord) → w ≡ pair_in planes signals chunk → ((i : ℕ) → is_set more i ≡ (is_set w.zero i && is_set w.one i)) → HasEach planes chunk signals both
    → HasEach planes chunk (signals + 1) (bit_or both more)
each-more planes chunk signals both more w is more_is before i = (found, set)
  where
    joined : is_set (bit_or both more) i ≡ (is_set both i || has_both_at planes signals chunk i)
    joined = is_set_or both more i ∙ ap (λ t. is_set both i || t) (more_is i ∙ ap (λ (x : PinWord). is_set x.zero i && is_set x.one i) is)

    found : IsTrue (is_set (bit_or both more) i) → (s : ℕ) × (s < signals + 1) × IsTrue (has_both_at planes s chunk i)
    found h =
        elim (or_cases (is_set both i) (has_both_at planes signals chunk i) (sym joined ∙ h)) [
          | inl old ↦ let one : (s : ℕ) × (s < signals) × IsTrue (has_both_at planes s chunk i) = (before i).0 old in (one.0, omega (arith, one.1), one.2)
          | inr new ↦ (signals, omega arith, new)
        ]

    set : (s : ℕ) × (s < signals + 1) × IsTrue (has_both_at planes s chunk i) → IsTrue (is_set (bit_or both more) i)
    set one =
        joined ∙ elim (cases_lt one.0 signals) [
          | inl below ↦ or_left (is_set both i) (has_both_at planes signals chunk i) ((before i).1 (one.0, below, one.2))
          | inr last ↦
              let same : one.0 ≡ signals = omega (arith, one.1, last) in
              or_right (is_set both i) (has_both_at planes signals chunk i) (subst (λ s. IsTrue (has_both_at planes s chunk i)) same one.2)
        ]

-- the lowest bit of a word that is not 0
pub lowest-bit : (n : ℕ) → (n ≡ 0 → ⊥) → n < 2 ^ 64 → (trailing_zeros w64 n < 64) × IsTrue (is_set n (trailing_zeros w64 n)) × ((i : ℕ) → i < trailing_zeros w64 n → is_set n i ≡ false)
unfolding is_set
lowest-bit n some small =
    let all : (trailing_zeros w64 n < 64) × (bit_at n (trailing_zeros w64 n) ≡ 1) × ((i : ℕ) → i < trailing_zeros w64 n → bit_at n i ≡ 0) = bit_at-trailing_zeros w64 n (positive n some) small in
    (all.0, ap (λ m. eqb m 1) all.1, λ i h. ap (λ m. eqb m 1) (all.2 i h))
  where
    positive : (n : ℕ) → (n ≡ 0 → ⊥) → 0 < n
    positive n some = elim (cases_eq n 0) [ inl z ↦ absurd (some z) | inr z ↦ omega (arith, z) ]

-- no cell before the chunk has both literals
abbrev pub HasNoneBefore : Unrolling → PlaneSet → ℕ → Type 0
HasNoneBefore u planes chunk = (d : Cell) → d.cycle / 64 < chunk → HasBoth (lits u planes) d → ⊥

module _ (u : Unrolling) (planes : PlaneSet) (of : IsOf u planes) where
  -- a cell with both literals is one, and its bit is set in both words
  pub both-there : (d : Cell) → HasBoth (lits u planes) d
      → (d.cycle < u.cycles) × (d.sig.0 < signals_in u) × IsTrue (has_both_at planes d.sig.0 (d.cycle / 64) (d.cycle % 64))
  both-there d both =
      let place : (d.sig.0 < signals_in u) × (d.cycle < u.cycles) = literals_are_of_cells u planes (lit d false) of both.0 in
      let words : pair_in planes d.sig.0 (d.cycle / 64) ≡ words_at planes (block_of u d) = in-block u planes of d.sig.0 (d.cycle / 64) in (
        place.1,
        place.0,
        ap (λ (w : PinWord). is_set w.zero (bit_of d) && is_set w.one (bit_of d)) words
            ∙ and_from (is_set (words_at planes (block_of u d)).zero (bit_of d)) (is_set (words_at planes (block_of u d)).one (bit_of d))
            (and_parts (nat_lt d.cycle u.cycles) (is_set (words_at planes (block_of u d)).zero (bit_of d)) both.0).1
            (and_parts (nat_lt d.cycle u.cycles) (is_set (words_at planes (block_of u d)).one (bit_of d)) both.1).1,
      )

  -- a bit that is set in both words is that of a cell with both literals
  pub both-here : (s : Sig) (chunk i : ℕ) → s.0 < signals_in u → chunk < chunks_in u → i < 64 → IsTrue (has_both_at planes s.0 chunk i) → HasBoth (lits u planes) (record { cycle = 64 * chunk + i; sig = s })
  both-here s chunk i h k few both =
      let parts : (is_set (pair_in planes s.0 chunk).zero i ≡ true) × (is_set (pair_in planes s.0 chunk).one i ≡ true) = and_parts (is_set (pair_in planes s.0 chunk).zero i) (is_set (pair_in planes s.0 chunk).one i) both in
      (sym (bit-has u planes of s h false chunk i k few) ∙ parts.0, sym (bit-has u planes of s h true chunk i k few) ∙ parts.1)

  -- the first one by bit and signal is the least cell of the chunk
  pub least-clash : (chunk i : ℕ) (s : Sig) (both : ℕ) → chunk < chunks_in u → s.0 < planes.signals → i < 64 → IsTrue (has_both_at planes s.0 chunk i)
      → HasEach planes chunk planes.signals both → ((j : ℕ) → j < i → is_set both j ≡ false) → ((t : ℕ) → t < s.0 → has_both_at planes t chunk i ≡ false)
      → IsLeastClash (lits_in_chunk u planes chunk) (record { cycle = 64 * chunk + i; sig = s })
  least-clash chunk i s both k h few clash each lowest first =
      let here : HasBoth (lits u planes) (record { cycle = 64 * chunk + i; sig = s }) = both-here s chunk i (subst (λ n. s.0 < n) of.signals h) k few clash in
      let place : (64 * chunk + i) / 64 ≡ chunk = omega (arith, few) in
      record {
        both = ((here.0, place), (here.1, place));
        least = least;
      }
    where
      least : (d : Cell) → HasBoth (lits_in_chunk u planes chunk) d → CellLe (record { cycle = 64 * chunk + i; sig = s }) d
      least d known =
          let at : (d.cycle < u.cycles) × (d.sig.0 < signals_in u) × IsTrue (has_both_at planes d.sig.0 (d.cycle / 64) (d.cycle % 64)) = both-there d (known.0.0, known.1.0) in
          let d_in : d.sig.0 < planes.signals = subst (λ n. d.sig.0 < n) (sym of.signals) at.1 in
          let same : d.cycle / 64 ≡ chunk = known.0.1 in
          let here : IsTrue (has_both_at planes d.sig.0 chunk (d.cycle % 64)) = subst (λ n. IsTrue (has_both_at planes d.sig.0 n (d.cycle % 64))) same at.2 in
          elim (cases_order (d.cycle % 64) i) [
            | inr (inl lower) ↦ absurd (true≢false (sym ((each (d.cycle % 64)).1 (d.sig.0, d_in, here)) ∙ lowest (d.cycle % 64) lower))
            | inr (inr higher) ↦ inl (omega (arith, same, higher))
            | inl one ↦
                elim (cases_lt d.sig.0 s.0) [
                  | inl lower ↦ absurd (true≢false (sym (subst (λ n. IsTrue (has_both_at planes d.sig.0 chunk n)) one here) ∙ first d.sig.0 lower))
                  | inr later ↦ inr (omega (arith, same, one), later)
                ]
          ]

  -- a word that is not 0 has a signal with its lowest bit in both words
  pub some-signal : (chunk both : ℕ) → HasEach planes chunk planes.signals both → (both ≡ 0 → ⊥) → both < 2 ^ 64
      → ((t : ℕ) → t < planes.signals → has_both_at planes t chunk (trailing_zeros w64 both) ≡ false) → ⊥
  some-signal chunk both each some small none =
      let bit : (trailing_zeros w64 both < 64) × IsTrue (is_set both (trailing_zeros w64 both)) × ((i : ℕ) → i < trailing_zeros w64 both → is_set both i ≡ false) = lowest-bit both some small in
      let found : (s : ℕ) × (s < planes.signals) × IsTrue (has_both_at planes s chunk (trailing_zeros w64 both)) = (each (trailing_zeros w64 both)).0 bit.1 in
      true≢false (sym found.2 ∙ none found.0 found.1)

  -- a word that is 0 is that of a chunk without one
  pub none-here : (chunk both : ℕ) → HasEach planes chunk planes.signals both → both ≡ 0 → (d : Cell) → d.cycle / 64 ≡ chunk → HasBoth (lits u planes) d → ⊥
  none-here chunk both each zero d same known =
      let at : (d.cycle < u.cycles) × (d.sig.0 < signals_in u) × IsTrue (has_both_at planes d.sig.0 (d.cycle / 64) (d.cycle % 64)) = both-there d known in
      let here : IsTrue (has_both_at planes d.sig.0 chunk (d.cycle % 64)) = subst (λ n. IsTrue (has_both_at planes d.sig.0 n (d.cycle % 64))) same at.2 in
      true≢false (sym ((each (d.cycle % 64)).1 (d.sig.0, subst (λ n. d.sig.0 < n) (sym of.signals) at.1, here)) ∙ ap (λ n. is_set n (d.cycle % 64)) zero ∙ is_set_zero (d.cycle % 64))

  -- no cell of the chunk has both literals, nor any before it
  pub none-more : (chunk : ℕ) → HasNoneBefore u planes chunk → ((d : Cell) → d.cycle / 64 ≡ chunk → HasBoth (lits u planes) d → ⊥) → HasNoneBefore u planes (chunk + 1)
  none-more chunk before none d h known = elim (cases_lt (d.cycle / 64) chunk) [ inl below ↦ before d below known | inr last ↦ none d (omega (arith, last, h)) known ]

  -- the least cell of the first chunk with one is the least of all
  pub least-of-all : (chunk : ℕ) (c : Cell) → HasNoneBefore u planes chunk → IsLeastClash (lits_in_chunk u planes chunk) c → IsLeastClash (lits u planes) c
  least-of-all chunk c before first = record { both = (first.both.0.0, first.both.1.0); least = least }
    where
      least : (d : Cell) → HasBoth (lits u planes) d → CellLe c d
      least d known =
          elim (cases_order (d.cycle / 64) chunk) [
            | inl same ↦ first.least d ((known.0, same), (known.1, same))
            | inr (inl below) ↦ absurd (before d below known)
            | inr (inr above) ↦ inl (omega (arith, above, first.both.0.1))
          ]

  -- where no chunk has one there is none
  pub no-clash : (chunk : ℕ) → chunks_in u ≤ chunk → HasNoneBefore u planes chunk → (d : Cell) → HasBoth (lits u planes) d → ⊥
  no-clash chunk all before d known = let early : d.cycle / 64 < chunks_in u = cycle-chunk u d.cycle (both-there d known).0 in before d (omega (arith, early, all)) known
