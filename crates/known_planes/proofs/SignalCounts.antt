-- How many literals are in the words of signals, chunk after chunk.
use Rattle.std.proofs.Common.{ℕ, zero, suc, ◌≡◌, ◌+◌, ◌-◌, ◌*◌, ◌/◌, ◌%◌, ◌<◌, ◌≤◌, ◌&&◌, ◌||◌, Bool, true, false, cond, List, length, get_or, take, arith, inl, inr, sym, ap, subst, bit_or, ◌∙◌}
use Rattle.std.specs.List.{All, count_by, sum_by, range_with_len}
use Rattle.std.specs.Prelude.{nat_lt}
use Rattle.std.proofs.lemmas.Bool.{cases_lt, cases_Bool, lt-ltb, le-ltb, true≢false}
use Rattle.std.proofs.lemmas.List.Elements.{All-filter, All-get_or}
use Rattle.std.proofs.lemmas.List.Sums.{sum_by_push, count_by-le-length, length-filter}
use Rattle.std.proofs.lemmas.List.{take_more}
use Rattle.std.proofs.lemmas.List.FromFn.{sum_by-map-range_with_len_more, length-map-range_with_len}
use Rattle.netlist.specs.Wiring.{driver_at, is_flip_flop, flip_flops, signals_below}
use Rattle.netlist.proofs.lemmas.Signals.{signals_within}
use Rattle.sr_model.specs.declared.cells.Sig.{Sig}
use Rattle.sr_model.specs.Netlist.{Driver, cell_at}
use Rattle.sr_model.specs.Closure.{lit}
use Rattle.unroll.specs.declared.words.PinWord.{PinWord}
use Rattle.unroll.specs.Bits.{is_set, word_for, no_words}
use Rattle.unroll.specs.Problem.{Unrolling, signals_in, chunks_in, block_at}
use Rattle.unroll.proofs.lemmas.Words.{is_set_or}
use Rattle.unroll.proofs.lemmas.Laws.{block-chunk, block-within}
use Rattle.known_planes.specs.Planes.{PlaneSet, words_at, pair_in, has, IsOf}
use Rattle.known_planes.specs.Counts.{bits_in, is_known, cells_where, known_count, literals_of, literal_count, known_bits_at, literal_bits_at}
use Rattle.known_planes.proofs.BitCounts.{same-words}
use Rattle.known_planes.proofs.Sums.{sum-agree, sum-moved, sum-parts, sum-more, sum-none, sum-agree_on, sum-turned, two-sums}

plus-zero : (n : ℕ) → n + 0 ≡ n
plus-zero n = omega arith

zero-plus : (n : ℕ) → 0 + n ≡ n
zero-plus n = omega arith

times-more : (w k : ℕ) → w * suc k ≡ w * k + w
times-more w k = grind arith

times-zero : (w : ℕ) → w * 0 ≡ 0
times-zero w = grind arith

suc-more : (k : ℕ) → suc k ≡ k + 1
suc-more k = omega arith

-- a sum in parts of w
pub parts-sum : (w : ℕ) (g : ℕ → ℕ) (k : ℕ) → sum_by (λ c. sum_by (λ i. g (w * c + i)) (range_with_len 0 w)) (range_with_len 0 k) ≡ sum_by g (range_with_len 0 (w * k))
parts-sum w g zero = sym (ap (λ n. sum_by g (range_with_len 0 n)) (times-zero w))
parts-sum w g (suc k) =
    ap (λ n. sum_by (λ c. sum_by (λ i. g (w * c + i)) (range_with_len 0 w)) (range_with_len 0 n)) (suc-more k)
    ∙ sum-more (λ c. sum_by (λ i. g (w * c + i)) (range_with_len 0 w)) k
    ∙ ap (λ n. n + sum_by (λ i. g (w * k + i)) (range_with_len 0 w)) (parts-sum w g k)
    ∙ ap (λ n. sum_by g (range_with_len 0 (w * k)) + n) (sym (sum-moved g (w * k) 0 w))
    ∙ ap (λ n. sum_by g (range_with_len 0 (w * k)) + sum_by g (range_with_len n w)) (plus-zero (w * k) ∙ sym (zero-plus (w * k)))
    ∙ sym (sum-parts g 0 (w * k) w)
    ∙ ap (λ n. sum_by g (range_with_len 0 n)) (sym (times-more w k))

bits-as : (word : ℕ) (g : ℕ → ℕ) → ((i : ℕ) → i < 64 → cond (is_set word i) 1 0 ≡ g i) → bits_in word ≡ sum_by g (range_with_len 0 64)
unfolding bits_in
bits-as word g same = sum-agree (λ i. cond (is_set word i) 1 0) g 0 64 (λ i low high. same i high)

-- the bits of a signal's words are the cycles that pass the test
pub signal-count : (x : ℕ → ℕ) (test : ℕ → Bool) (cycles chunks : ℕ) → chunks ≡ (cycles + 63) / 64
    → ((c i : ℕ) → c < chunks → i < 64 → is_set (x c) i ≡ test (64 * c + i)) → ((t : ℕ) → cycles ≤ t → test t ≡ false)
    → sum_by (λ c. bits_in (x c)) (range_with_len 0 chunks) ≡ count_by test (range_with_len 0 cycles)
signal-count x test cycles chunks is bits late =
    sum-agree (λ c. bits_in (x c)) (λ c. sum_by (λ i. g (64 * c + i)) (range_with_len 0 64)) 0 chunks
    (λ c low high. bits-as (x c) (λ i. g (64 * c + i)) (λ i few. ap (λ t. cond t 1 0) (bits c i (omega (arith, high)) few)))
    ∙ parts-sum 64 g chunks
    ∙ ap (λ n. sum_by g (range_with_len 0 n)) whole
    ∙ sum-parts g 0 cycles (64 * chunks - cycles)
    ∙ ap (λ n. sum_by g (range_with_len 0 cycles) + n) (sum-none g (0 + cycles) (64 * chunks - cycles) (λ t low high. ap (λ b. cond b 1 0) (late t (omega (arith, low)))))
    ∙ plus-zero (sum_by g (range_with_len 0 cycles))
  where
    g : ℕ → ℕ
    g t = cond (test t) 1 0

    whole : 64 * chunks ≡ cycles + (64 * chunks - cycles)
    whole = omega (arith, is)

module _ (u : Unrolling) (planes : PlaneSet) (of : IsOf u planes) (s : Sig) (h : s.0 < signals_in u) where
  -- a bit of a signal's words is a literal
  pub bit-has : (bit : Bool) (c i : ℕ) → c < chunks_in u → i < 64 → is_set (word_for bit (pair_in planes s.0 c)) i ≡ has u planes (lit (cell_at (64 * c + i) s) bit)
  bit-has bit c i k few =
      elim (cases_lt (64 * c + i) u.cycles) [
        | inl early ↦
            same ∙ sym (ap (λ t. t && is_set (word_for bit (words_at planes (block_at u s ((64 * c + i) / 64)))) ((64 * c + i) % 64)) (lt-ltb (64 * c + i) u.cycles early)
            ∙ ap (λ n. is_set (word_for bit (words_at planes (block_at u s n))) ((64 * c + i) % 64)) (omega (arith, few))
            ∙ ap (λ n. is_set (word_for bit (words_at planes (block_at u s c))) n) (omega (arith, few)))
        | inr late ↦
            elim (cases_Bool (is_set (word_for bit (words_at planes (block_at u s c))) i)) [
              | inl set ↦
                  let cycle : nat_lt (64 * c + i) u.cycles ≡ true = subst (λ n. nat_lt (64 * n + i) u.cycles ≡ true) (block-chunk u s c k) (of.no_later (block_at u s c) (block-within u s c k h) bit i few set) in
                  absurd (true≢false (sym cycle ∙ le-ltb (64 * c + i) u.cycles late))
              | inr unset ↦
                  same ∙ unset ∙ sym (ap (λ t. t && is_set (word_for bit (words_at planes (block_at u s ((64 * c + i) / 64)))) ((64 * c + i) % 64)) (le-ltb (64 * c + i) u.cycles late))
            ]
      ]
    where
      same : is_set (word_for bit (pair_in planes s.0 c)) i ≡ is_set (word_for bit (words_at planes (block_at u s c))) i
      same = ap (λ n. is_set (word_for bit (get_or planes.words (s.0 * n + c) no_words)) i) of.chunks

  has-late : (bit : Bool) (t : ℕ) → u.cycles ≤ t → has u planes (lit (cell_at t s) bit) ≡ false
  has-late bit t late = ap (λ b. b && is_set (word_for bit (words_at planes (block_at u s (t / 64)))) (t % 64)) (le-ltb t u.cycles late)

  pub known-signal : sum_by (known_bits_at planes s.0) (range_with_len 0 planes.chunks) ≡ cells_where u.cycles (is_known (has u planes)) s
  known-signal =
      signal-count (λ c. bit_or (pair_in planes s.0 c).zero (pair_in planes s.0 c).one) (λ t. is_known (has u planes) (cell_at t s)) u.cycles planes.chunks of.chunks
      (λ c i k few.
      let k_in : c < chunks_in u = subst (λ n. c < n) of.chunks k in
      is_set_or (pair_in planes s.0 c).zero (pair_in planes s.0 c).one i
      ∙ ap (λ b. b || is_set (pair_in planes s.0 c).one i) (bit-has false c i k_in few)
      ∙ ap (λ b. has u planes (lit (cell_at (64 * c + i) s) false) || b) (bit-has true c i k_in few))
      (λ t late. ap (λ b. b || has u planes (lit (cell_at t s) true)) (has-late false t late) ∙ has-late true t late)

  pub literal-signal : sum_by (literal_bits_at planes s.0) (range_with_len 0 planes.chunks) ≡ literals_of u planes s
  literal-signal =
      sym (two-sums (λ c. bits_in (pair_in planes s.0 c).zero) (λ c. bits_in (pair_in planes s.0 c).one) (range_with_len 0 planes.chunks))
      ∙ ap (λ n. n + sum_by (λ c. bits_in (pair_in planes s.0 c).one) (range_with_len 0 planes.chunks))
      (signal-count (λ c. (pair_in planes s.0 c).zero) (λ t. has u planes (lit (cell_at t s) false)) u.cycles planes.chunks of.chunks
      (λ c i k few. bit-has false c i (subst (λ n. c < n) of.chunks k) few) (has-late false))
      ∙ ap (λ n. cells_where u.cycles (λ c. has u planes (lit c false)) s + n)
      (signal-count (λ c. (pair_in planes s.0 c).one) (λ t. has u planes (lit (cell_at t s) true)) u.cycles planes.chunks of.chunks
      (λ c i k few. bit-has true c i (subst (λ n. c < n) of.chunks k) few) (has-late true))

-- the flip-flops are signals, and no more than there are
pub flip_flops-within : (drivers : List Driver) → All (λ s. s.0 < length drivers) (flip_flops drivers)
flip_flops-within drivers = All-filter (λ s. is_flip_flop (driver_at drivers s.0)) (λ s. s.0 < length drivers) (signals_below (length drivers)) (signals_within (length drivers))

pub few-flip_flops : (drivers : List Driver) → length (flip_flops drivers) ≤ length drivers
few-flip_flops drivers =
    let count : length (flip_flops drivers) ≡ count_by (λ s. is_flip_flop (driver_at drivers s.0)) (signals_below (length drivers)) = length-filter (λ s. is_flip_flop (driver_at drivers s.0)) (signals_below (length drivers)) in
    let few : count_by (λ s. is_flip_flop (driver_at drivers s.0)) (signals_below (length drivers)) ≤ length (signals_below (length drivers)) = count_by-le-length (λ s. is_flip_flop (driver_at drivers s.0)) (signals_below (length drivers)) in
    let all : length (signals_below (length drivers)) ≡ length drivers = length-map-range_with_len (λ s. record { 0 = s }) 0 (length drivers) in
    omega (arith, count, few, all)

-- over all chunks
pub known-all : (u : Unrolling) (planes : PlaneSet) → IsOf u planes
    → sum_by (λ chunk. sum_by (λ s. known_bits_at planes s.0 chunk) (flip_flops u.circuit.drivers)) (range_with_len 0 planes.chunks) ≡ known_count u.circuit u.cycles (has u planes)
known-all u planes of =
    sum-turned (λ (s : Sig) chunk. known_bits_at planes s.0 chunk) (flip_flops u.circuit.drivers) (range_with_len 0 planes.chunks)
    ∙ sum-agree_on (λ (s : Sig). s.0 < signals_in u) (λ s. sum_by (known_bits_at planes s.0) (range_with_len 0 planes.chunks)) (cells_where u.cycles (is_known (has u planes))) (flip_flops u.circuit.drivers)
    (flip_flops-within u.circuit.drivers) (λ s h. known-signal u planes of s h)

pub literals-all : (u : Unrolling) (planes : PlaneSet) → IsOf u planes
    → sum_by (λ chunk. sum_by (λ s. literal_bits_at planes s.0 chunk) (signals_below planes.signals)) (range_with_len 0 planes.chunks) ≡ literal_count u planes
literals-all u planes of =
    sum-turned (λ (s : Sig) chunk. literal_bits_at planes s.0 chunk) (signals_below planes.signals) (range_with_len 0 planes.chunks)
    ∙ ap (λ n. sum_by (λ s. sum_by (literal_bits_at planes s.0) (range_with_len 0 planes.chunks)) (signals_below n)) of.signals
    ∙ sum-agree_on (λ (s : Sig). s.0 < signals_in u) (λ s. sum_by (literal_bits_at planes s.0) (range_with_len 0 planes.chunks)) (literals_of u planes) (signals_below (signals_in u))
    (signals_within (signals_in u)) (λ s h. literal-signal u planes of s h)

-- a signal more
pub literals-more : (planes : PlaneSet) (chunk s : ℕ) (w : PinWord) (a b c d count : ℕ) → w ≡ pair_in planes s chunk → a ≡ bits_in w.zero → b ≡ bits_in w.one → a ≤ 64 → b ≤ 64 → c ≡ a → d ≡ b
    → (count ≡ sum_by (λ t. literal_bits_at planes t.0 chunk) (signals_below s)) × (count ≤ 128 * s)
    → (count + (c + d) ≡ sum_by (λ t. literal_bits_at planes t.0 chunk) (signals_below (s + 1))) × (count + (c + d) ≤ 128 * (s + 1))
literals-more planes chunk s w a b c d count is a_is b_is few_a few_b c_is d_is before = (
  ap (λ n. n + (c + d)) before.0
      ∙ ap (λ n. sum_by (λ t. literal_bits_at planes t.0 chunk) (signals_below s) + (n + d)) (c_is ∙ a_is ∙ ap (λ (x : PinWord). bits_in x.zero) is)
      ∙ ap (λ n. sum_by (λ t. literal_bits_at planes t.0 chunk) (signals_below s) + (bits_in (pair_in planes s chunk).zero + n)) (d_is ∙ b_is ∙ ap (λ (x : PinWord). bits_in x.one) is)
      ∙ sym (sum_by-map-range_with_len_more (λ (t : Sig). literal_bits_at planes t.0 chunk) (λ n. record { 0 = n }) 0 s s (zero-plus s)),
  omega (arith, few_a, few_b, c_is, d_is, before.1),
)

-- a flip-flop more
pub known-more : (planes : PlaneSet) (chunk : ℕ) (ss : List Sig) (i : ℕ) (s : Sig) → i < length ss → (w : PinWord) (known a b count : ℕ)
    → w ≡ pair_in planes (get_or ss i s).0 chunk → ((k : ℕ) → is_set known k ≡ (is_set w.zero k || is_set w.one k)) → a ≡ bits_in known → a ≤ 64 → b ≡ a
    → (count ≡ sum_by (λ t. known_bits_at planes t.0 chunk) (take i ss)) × (count ≤ 64 * i)
    → (count + b ≡ sum_by (λ t. known_bits_at planes t.0 chunk) (take (i + 1) ss)) × (count + b ≤ 64 * (i + 1))
known-more planes chunk ss i s h w known a b count is known_is a_is few_a b_is before = (
  ap (λ n. n + b) before.0
      ∙ ap (λ n. sum_by (λ t. known_bits_at planes t.0 chunk) (take i ss) + n) (b_is ∙ a_is ∙ ap bits_in (same-words known (bit_or w.zero w.one) (λ k. known_is k ∙ sym (is_set_or w.zero w.one k))) ∙ ap (λ (x : PinWord). bits_in (bit_or x.zero x.one)) is)
      ∙ sym (ap (sum_by (λ (t : Sig). known_bits_at planes t.0 chunk)) (take_more ss i s h) ∙ sum_by_push (λ (t : Sig). known_bits_at planes t.0 chunk) (take i ss) (get_or ss i s)),
  omega (arith, few_a, b_is, before.1),
)

-- a chunk more
pub chunk-more : (f : ℕ → ℕ) (chunk count more most : ℕ) → more ≡ f chunk → more ≤ most → (count ≡ sum_by f (range_with_len 0 chunk)) × (count ≤ most * chunk)
    → (count + more ≡ sum_by f (range_with_len 0 (chunk + 1))) × (count + more ≤ most * (chunk + 1))
chunk-more f chunk count more most is few before = (
  ap (λ n. n + more) before.0 ∙ ap (λ n. sum_by f (range_with_len 0 chunk) + n) is ∙ sym (sum-more f chunk),
  subst (λ n. count + more ≤ n) (sym (more-times most chunk)) (omega (arith, few, before.1)),
)
  where
    more-times : (a b : ℕ) → a * (b + 1) ≡ a * b + a
    more-times a b = grind arith

-- a flip-flop of the list is a signal
pub listed-within : (u : Unrolling) (planes : PlaneSet) → IsOf u planes → (ss : List Sig) → ss ≡ flip_flops u.circuit.drivers → (i : ℕ) (d : Sig) → i < length ss → (get_or ss i d).0 < planes.signals
listed-within u planes of ss same i d h =
    subst (λ n. (get_or ss i d).0 < n) (sym of.signals)
    (All-get_or (λ (s : Sig). s.0 < signals_in u) ss i d h (subst (All (λ s. s.0 < signals_in u)) (sym same) (flip_flops-within u.circuit.drivers)))
