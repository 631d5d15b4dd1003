-- How many cells of flip-flops are known by words, once a block has others, and by planes with fewer literals.
use Rattle.std.proofs.Common.{ℕ, ◌≡◌, ◌+◌, ◌*◌, ◌<◌, ◌≤◌, true, false, cond, List, length, get_or, set, arith, inl, inr, sym, ap, ◌∙◌}
use Rattle.std.specs.List.{sum_by, range_with_len}
use Rattle.std.proofs.lemmas.Bool.{cases_eq, or_cases, or_left, or_right}
use Rattle.std.proofs.lemmas.List.{get_or-set_same, get_or-set_other}
use Rattle.std.proofs.lemmas.Nat.{same_from_place}
use Rattle.netlist.specs.Wiring.{driver_at, is_flip_flop, flip_flops, signals_below}
use Rattle.sr_model.specs.declared.cells.Sig.{Sig}
use Rattle.sr_model.specs.Closure.{IsWithin, lit}
use Rattle.sr_model.specs.Netlist.{Driver, cell_at}
use Rattle.unroll.specs.declared.words.PinWord.{PinWord}
use Rattle.unroll.specs.Bits.{no_words}
use Rattle.unroll.specs.Problem.{Unrolling, signals_in}
use Rattle.known_planes.specs.Counts.{cells_where, is_known, known_bits, known_by_words, known_count}
use Rattle.known_planes.specs.Planes.{PlaneSet, IsOf, has, lits}
use Rattle.known_planes.proofs.CountLaws.{one-le}
use Rattle.known_planes.proofs.SignalCounts.{flip_flops-within, known-signal}
use Rattle.known_planes.proofs.Sums.{sum-agree, sum-agree_on, sum-but_one, sum-filtered, sum-le, sum-mapped}

-- of planes they are the known cells
pub known-words : (u : Unrolling) (planes : PlaneSet) → IsOf u planes → known_by_words u.circuit.drivers planes.chunks planes.words ≡ known_count u.circuit u.cycles (has u planes)
known-words u planes of =
    sum-agree_on (λ (s : Sig). s.0 < signals_in u) (λ s. sum_by (λ chunk. known_bits (get_or planes.words (s.0 * planes.chunks + chunk) no_words)) (range_with_len 0 planes.chunks)) (cells_where u.cycles (is_known (has u planes)))
    (flip_flops u.circuit.drivers) (flip_flops-within u.circuit.drivers) (λ s h. known-signal u planes of s h)

-- fewer literals make fewer of them known
pub known-within : (u : Unrolling) (few many : PlaneSet) → IsWithin (lits u few) (lits u many) → known_count u.circuit u.cycles (has u few) ≤ known_count u.circuit u.cycles (has u many)
known-within u few many within =
    sum-le (cells_where u.cycles (is_known (has u few))) (cells_where u.cycles (is_known (has u many)))
    (λ s. sum-le (λ t. cond (is_known (has u few) (cell_at t s)) 1 0) (λ t. cond (is_known (has u many) (cell_at t s)) 1 0) (each s) (range_with_len 0 u.cycles)) (flip_flops u.circuit.drivers)
  where
    each : (s : Sig) (t : ℕ) → cond (is_known (has u few) (cell_at t s)) 1 0 ≤ cond (is_known (has u many) (cell_at t s)) 1 0
    each s t =
        one-le (is_known (has u few) (cell_at t s)) (is_known (has u many) (cell_at t s))
        (λ known. elim (or_cases (has u few (lit (cell_at t s) false)) (has u few (lit (cell_at t s) true)) known) [
          | inl zero ↦ or_left (has u many (lit (cell_at t s) false)) (has u many (lit (cell_at t s) true)) (within (lit (cell_at t s) false) zero)
          | inr one ↦ or_right (has u many (lit (cell_at t s) false)) (has u many (lit (cell_at t s) true)) (within (lit (cell_at t s) true) one)
        ])

-- a block with other words
module _ (drivers : List Driver) (chunks : ℕ) (words : List PinWord) (s chunk : ℕ) (w : PinWord) (h : s < length drivers) (k : chunk < chunks) (within : s * chunks + chunk < length words) where
  abbrev other : List PinWord
  other = set words (s * chunks + chunk) w

  abbrev old : PinWord
  old = get_or words (s * chunks + chunk) no_words

  abbrev row : List PinWord → ℕ → ℕ
  row ws t = sum_by (λ c. known_bits (get_or ws (t * chunks + c) no_words)) (range_with_len 0 chunks)

  abbrev weighed : List PinWord → ℕ → ℕ
  weighed ws t = cond (is_flip_flop (driver_at drivers t)) (row ws t) 0

  by-signal : (ws : List PinWord) → known_by_words drivers chunks ws ≡ sum_by (weighed ws) (range_with_len 0 (length drivers))
  by-signal ws =
      sum-filtered (λ (t : Sig). row ws t.0) (λ t. is_flip_flop (driver_at drivers t.0)) (signals_below (length drivers))
      ∙ sum-mapped (λ (t : Sig). weighed ws t.0) (λ n. record { 0 = n }) (range_with_len 0 (length drivers))

  bits-other : (t c : ℕ) → c < chunks → (t ≡ s → c ≡ chunk → ⊥) → known_bits (get_or other (t * chunks + c) no_words) ≡ known_bits (get_or words (t * chunks + c) no_words)
  bits-other t c c_in apart =
      ap known_bits (get_or-set_other words (s * chunks + chunk) (t * chunks + c) w no_words
      (λ e. let same : (t ≡ s) × (c ≡ chunk) = same_from_place t c s chunk chunks c_in k e in apart same.0 same.1))

  row-other : (t : ℕ) → (t ≡ s → ⊥) → row other t ≡ row words t
  row-other t apart =
      sum-agree (λ c. known_bits (get_or other (t * chunks + c) no_words)) (λ c. known_bits (get_or words (t * chunks + c) no_words)) 0 chunks
      (λ c low high. bits-other t c (omega (arith, high)) (λ e _. apart e))

  row-here : row other s + known_bits old ≡ row words s + known_bits w
  row-here =
      sum-but_one (λ c. known_bits (get_or other (s * chunks + c) no_words)) (λ c. known_bits (get_or words (s * chunks + c) no_words)) chunk 0 chunks (omega arith) (omega (arith, k))
      (λ c high apart. bits-other s c (omega (arith, high)) (λ _ e. apart e))
      ∙ ap (λ x. row words s + known_bits x) (get_or-set_same words (s * chunks + chunk) w no_words within)

  weighed-other : (t : ℕ) → (t ≡ s → ⊥) → weighed other t ≡ weighed words t
  weighed-other t apart = ap (λ n. cond (is_flip_flop (driver_at drivers t)) n 0) (row-other t apart)

  pub known-flip_flop : is_flip_flop (driver_at drivers s) ≡ true → known_by_words drivers chunks other + known_bits old ≡ known_by_words drivers chunks words + known_bits w
  known-flip_flop held =
      let all : sum_by (weighed other) (range_with_len 0 (length drivers)) + weighed words s ≡ sum_by (weighed words) (range_with_len 0 (length drivers)) + weighed other s =
      sum-but_one (weighed other) (weighed words) s 0 (length drivers) (omega arith) (omega (arith, h)) (λ t high apart. weighed-other t apart) in
      let here : (ws : List PinWord) → weighed ws s ≡ row ws s = λ ws. ap (λ b. cond b (row ws s) 0) held in
      omega (arith, by-signal other, by-signal words, all, here other, here words, row-here)

  pub known-gate : is_flip_flop (driver_at drivers s) ≡ false → known_by_words drivers chunks other ≡ known_by_words drivers chunks words
  known-gate other_kind =
      by-signal other
      ∙ sum-agree (weighed other) (weighed words) 0 (length drivers)
      (λ t low high. elim (cases_eq t s) [
        | inl same ↦
            ap (λ n. cond (is_flip_flop (driver_at drivers n)) (row other t) 0) same ∙ ap (λ b. cond b (row other t) 0) other_kind
            ∙ sym (ap (λ n. cond (is_flip_flop (driver_at drivers n)) (row words t) 0) same ∙ ap (λ b. cond b (row words t) 0) other_kind)
        | inr apart ↦ weighed-other t apart
      ])
      ∙ sym (by-signal words)
