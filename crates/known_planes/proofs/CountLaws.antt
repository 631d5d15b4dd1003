-- How many literals planes have: by blocks, with one more, and never too many.
use Rattle.std.proofs.Common.{ℕ, ◌≡◌, ◌+◌, ◌*◌, ◌<◌, ◌≤◌, Bool, true, false, cond, length, get_or, arith, refl, sym, ap, subst, ◌∙◌}
use Rattle.std.specs.List.{sum_by, range_with_len}
use Rattle.std.proofs.lemmas.Bool.{true≢false}
use Rattle.std.proofs.lemmas.List.Sums.{sum_by-le, count_by-le-length}
use Rattle.std.proofs.lemmas.List.FromFn.{length-range_with_len}
use Rattle.netlist.specs.Wiring.{signals_below}
use Rattle.netlist.proofs.lemmas.Signals.{signals_member, signals_within}
use Rattle.sr_model.specs.declared.cells.Sig.{Sig}
use Rattle.sr_model.specs.Netlist.{cell_at}
use Rattle.sr_model.specs.Closure.{lit}
use Rattle.unroll.specs.declared.words.PinWord.{PinWord}
use Rattle.unroll.specs.Bits.{is_set, no_words}
use Rattle.unroll.specs.Problem.{signals_in}
use Rattle.unroll.proofs.lemmas.Tasks.{chunk-listed}
use Rattle.known_planes.specs.Planes.{PlaneSet, has}
use Rattle.known_planes.specs.Counts.{bits_in, bits_of_both, literal_bits_at, literals_of, cells_where}
use Rattle.known_planes.specs.Laws.{LiteralsByBlock, MoreLiteralsCountMore, LiteralsAreBits}
use Rattle.known_planes.proofs.Sums.{sum-agree, sum-agree_on, sum-mapped, sum-places, sum-le, sum-lt}
use Rattle.known_planes.proofs.SignalCounts.{literal-signal, parts-sum}
use Rattle.known_planes.proofs.PlanesLaws.{literals_are_of_cells}

pub literals_by_block : LiteralsByBlock
literals_by_block u planes of =
    sym (sum-agree_on (λ (s : Sig). s.0 < signals_in u) (λ s. sum_by (literal_bits_at planes s.0) (range_with_len 0 planes.chunks)) (literals_of u planes) (signals_below (signals_in u))
    (signals_within (signals_in u)) (λ s h. literal-signal u planes of s h))
    ∙ sum-mapped (λ (s : Sig). sum_by (literal_bits_at planes s.0) (range_with_len 0 planes.chunks)) (λ k. record { 0 = k }) (range_with_len 0 (signals_in u))
    ∙ sum-agree (λ k. sum_by (literal_bits_at planes k) (range_with_len 0 planes.chunks)) (λ k. sum_by (λ c. bits_at (planes.chunks * k + c)) (range_with_len 0 planes.chunks)) 0 (signals_in u)
    (λ k low high. sum-agree (literal_bits_at planes k) (λ c. bits_at (planes.chunks * k + c)) 0 planes.chunks (λ c l h. ap (λ n. bits_at (n + c)) (times-swap k planes.chunks)))
    ∙ parts-sum planes.chunks bits_at (signals_in u)
    ∙ ap (λ n. sum_by bits_at (range_with_len 0 n)) whole
    ∙ sym (sum-places bits_of_both no_words planes.words)
  where
    bits_at : ℕ → ℕ
    bits_at b = bits_of_both (get_or planes.words b no_words)

    times-swap : (a b : ℕ) → a * b ≡ b * a
    times-swap a b = grind arith

    whole : planes.chunks * signals_in u ≡ length planes.words
    whole = ap (λ n. n * signals_in u) of.chunks ∙ times-swap _ (signals_in u) ∙ sym of.blocks

pub one-le : (a b : Bool) → (a ≡ true → b ≡ true) → cond a 1 0 ≤ cond b 1 0
one-le true b h = subst (λ x. 1 ≤ cond x 1 0) (sym (h refl)) (omega arith)
one-le false b h = omega arith

one-lt : (a b : Bool) → a ≡ false → b ≡ true → cond a 1 0 < cond b 1 0
one-lt true b e h = absurd (true≢false e)
one-lt false false e h = absurd (true≢false (sym h))
one-lt false true e h = omega arith

pub more_literals_count_more : MoreLiteralsCountMore
more_literals_count_more u few many l of within none some =
    sum-lt (literals_of u few) (literals_of u many) (λ s. omega (arith, side-le false s, side-le true s)) (signals_below (signals_in u)) l.cell.sig
    (signals_member (signals_in u) l.cell.sig.0 (literals_are_of_cells u many l of some).0)
    (more l.bit (sum-lt (one few l.bit l.cell.sig) (one many l.bit l.cell.sig) (each l.bit l.cell.sig) (range_with_len 0 u.cycles) l.cell.cycle
    (chunk-listed u.cycles l.cell.cycle (literals_are_of_cells u many l of some).1) (one-lt (has u few l) (has u many l) none some)))
  where
    one : PlaneSet → Bool → Sig → ℕ → ℕ
    one planes bit s t = cond (has u planes (lit (cell_at t s) bit)) 1 0

    each : (bit : Bool) (s : Sig) (t : ℕ) → one few bit s t ≤ one many bit s t
    each bit s t = one-le (has u few (lit (cell_at t s) bit)) (has u many (lit (cell_at t s) bit)) (within (lit (cell_at t s) bit))

    side : PlaneSet → Bool → Sig → ℕ
    side planes bit s = cells_where u.cycles (λ c. has u planes (lit c bit)) s

    side-le : (bit : Bool) (s : Sig) → side few bit s ≤ side many bit s
    side-le bit s = sum-le (one few bit s) (one many bit s) (each bit s) (range_with_len 0 u.cycles)

    more : (bit : Bool) → side few bit l.cell.sig < side many bit l.cell.sig → literals_of u few l.cell.sig < literals_of u many l.cell.sig
    more true less = omega (arith, less, side-le false l.cell.sig)
    more false less = omega (arith, less, side-le true l.cell.sig)

pub few-bits : (word : ℕ) → bits_in word ≤ 64
unfolding bits_in
few-bits word = omega (arith, count_by-le-length (is_set word) (range_with_len 0 64), length-range_with_len 0 64)

pub literals_are_bits : LiteralsAreBits
literals_are_bits u planes of =
    let most : sum_by bits_of_both planes.words ≤ length planes.words * 128 = sum_by-le bits_of_both 128 planes.words (λ i d h. both (get_or planes.words i d)) in
    omega (arith, most, literals_by_block u planes of, of.blocks)
  where
    both : (w : PinWord) → bits_of_both w ≤ 128
    both w = omega (arith, few-bits w.zero, few-bits w.one)
