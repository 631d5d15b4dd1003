-- Planes of a problem, and the literals that they have.
use Rattle.std.proofs.Common.{ℕ, ◌≡◌, ◌+◌, ◌*◌, ◌/◌, ◌%◌, ◌<◌, ◌≤◌, ◌&&◌, Bool, true, false, List, length, get_or, set, length-set, replicate, arith, inl, inr, sym, ap, subst, refl, ◌∙◌}
use Rattle.std.specs.Prelude.{Option, None, nat_lt}
use Rattle.std.proofs.lemmas.Bool.{cases_eq, cases_lt, le-ltb, and_parts}
use Rattle.std.proofs.lemmas.List.{get_or-set_same, get_or-set_other, get_or-replicate}
use Rattle.std.proofs.lemmas.Nat.{same_from_place, div_below}
use Rattle.std.proofs.Math.ListN.{get_or-eq_default}
use Rattle.std.proofs.Math.Nat.{mod-add-div'}
use Rattle.std.proofs.lemmas.List.{length-replicate}
use Rattle.sr_model.specs.declared.cells.Sig.{Sig}
use Rattle.sr_model.specs.declared.cells.Lit.{Lit}
use Rattle.unroll.specs.declared.problem.Block.{Block}
use Rattle.unroll.specs.declared.words.PinWord.{PinWord}
use Rattle.unroll.specs.Bits.{is_set, is_cycle, word_for, no_words}
use Rattle.unroll.specs.Problem.{Unrolling, signals_in, chunks_in, blocks_in, block_at, block_of, chunk_at, bit_of, HasNoLaterBit}
use Rattle.unroll.proofs.lemmas.Words.{is_set_zero}
use Rattle.unroll.proofs.lemmas.Laws.{block-chunk, block-within, cycle-chunk}
use Rattle.known_planes.specs.Planes.{PlaneSet, words_at, with_words, pair_in, has, IsOf}
use Rattle.known_planes.specs.Layout.{words_from, pair_of, IsLaidOut}
use Rattle.known_planes.proofs.Layouts.{over, words-size, words-by-number}

-- the words of the block are there, and the others as before
pub words-there : (planes : PlaneSet) (b : Block) (w : PinWord) → b.0 < length planes.words → words_at (with_words planes b w) b ≡ w
words-there planes b w h = get_or-set_same planes.words b.0 w no_words h

pub words-elsewhere : (planes : PlaneSet) (b a : Block) (w : PinWord) → (a.0 ≡ b.0 → ⊥) → words_at (with_words planes b w) a ≡ words_at planes a
words-elsewhere planes b a w apart = get_or-set_other planes.words b.0 a.0 w no_words apart

-- the planes stay those of the problem
pub of-with : (u : Unrolling) (planes : PlaneSet) (b : Block) (w : PinWord) → IsOf u planes → b.0 < blocks_in u → HasNoLaterBit u.cycles (chunk_at u b) w → IsOf u (with_words planes b w)
of-with u planes b w of within none =
    record {
      signals = of.signals;
      chunks = of.chunks;
      blocks = length-set planes.words b.0 w ∙ of.blocks;
      no_later = each;
    }
  where
    each : (a : Block) → a.0 < blocks_in u → HasNoLaterBit u.cycles (chunk_at u a) (words_at (with_words planes b w) a)
    each a h =
        elim (cases_eq a.0 b.0) [
          | inl same ↦
              let one : b ≡ a = ap (λ n. record { 0 = n }) (sym same) in
              let there : words_at (with_words planes b w) b ≡ w = words-there planes b w (subst (λ n. b.0 < n) (sym of.blocks) within) in
              subst (λ (x : Block). HasNoLaterBit u.cycles (chunk_at u x) (words_at (with_words planes b w) x)) one (subst (HasNoLaterBit u.cycles (chunk_at u b)) (sym there) none)
          | inr other ↦ subst (HasNoLaterBit u.cycles (chunk_at u a)) (sym (words-elsewhere planes b a w other)) (of.no_later a h)
        ]

-- the same by signal and chunk
pub of-with_pair : (u : Unrolling) (planes : PlaneSet) (s : Sig) (chunk : ℕ) (w : PinWord) → IsOf u planes → s.0 < signals_in u → chunk < chunks_in u
    → HasNoLaterBit u.cycles chunk w → (new : PlaneSet) → new ≡ with_words planes (block_at u s chunk) w → IsOf u new
of-with_pair u planes s chunk w of h k none new is =
    subst (IsOf u) (sym is)
    (of-with u planes (block_at u s chunk) w of (block-within u s chunk k h) (subst (λ n. HasNoLaterBit u.cycles n w) (sym (block-chunk u s chunk k)) none))

-- the words that are set for a signal and a chunk are those of their block
pub set-is : (u : Unrolling) (planes : PlaneSet) (s : Sig) (chunk : ℕ) (w : PinWord) → IsOf u planes → (new : PlaneSet)
    → new ≡ record { signals = planes.signals; chunks = planes.chunks; words = set planes.words (s.0 * planes.chunks + chunk) w; mark = planes.mark }
    → new ≡ with_words planes (block_at u s chunk) w
set-is u planes s chunk w of new is = is ∙ ap (λ n. with_words planes (record { 0 = s.0 * n + chunk }) w) of.chunks

-- what the planes have of the cells whose words are new, and of the others
pub has-there : (u : Unrolling) (planes : PlaneSet) (s : Sig) (chunk : ℕ) (w : PinWord) → IsOf u planes → s.0 < signals_in u → chunk < chunks_in u → (l : Lit)
    → s.0 ≡ l.cell.sig.0 → chunk ≡ l.cell.cycle / 64
    → has u (with_words planes (block_at u s chunk) w) l ≡ (nat_lt l.cell.cycle u.cycles && is_set (word_for l.bit w) (bit_of l.cell))
has-there u planes s chunk w of h k l sig cycle =
    let one : block_of u l.cell ≡ block_at u s chunk = ap (λ n. record { 0 = n * chunks_in u + l.cell.cycle / 64 }) (sym sig) ∙ ap (λ n. record { 0 = s.0 * chunks_in u + n }) (sym cycle) in
    let there : words_at (with_words planes (block_at u s chunk) w) (block_at u s chunk) ≡ w =
    words-there planes (block_at u s chunk) w (subst (λ n. (block_at u s chunk).0 < n) (sym of.blocks) (block-within u s chunk k h)) in
    ap (λ b. nat_lt l.cell.cycle u.cycles && is_set (word_for l.bit (words_at (with_words planes (block_at u s chunk) w) b)) (bit_of l.cell)) one
    ∙ ap (λ x. nat_lt l.cell.cycle u.cycles && is_set (word_for l.bit x) (bit_of l.cell)) there

pub has-elsewhere : (u : Unrolling) (planes : PlaneSet) (s : Sig) (chunk : ℕ) (w : PinWord) → chunk < chunks_in u → (l : Lit)
    → (s.0 ≡ l.cell.sig.0 → chunk ≡ l.cell.cycle / 64 → ⊥)
    → has u (with_words planes (block_at u s chunk) w) l ≡ has u planes l
has-elsewhere u planes s chunk w k l apart =
    elim (cases_lt l.cell.cycle u.cycles) [
      | inl early ↦
          ap (λ x. nat_lt l.cell.cycle u.cycles && is_set (word_for l.bit x) (bit_of l.cell))
          (words-elsewhere planes (block_at u s chunk) (block_of u l.cell) w (λ e.
          let same : (l.cell.sig.0 ≡ s.0) × (l.cell.cycle / 64 ≡ chunk) = same_from_place l.cell.sig.0 (l.cell.cycle / 64) s.0 chunk (chunks_in u) (cycle-chunk u l.cell.cycle early) k e in
          apart (sym same.0) (sym same.1)))
      | inr late ↦
          ap (λ t. t && is_set (word_for l.bit (words_at (with_words planes (block_at u s chunk) w) (block_of u l.cell))) (bit_of l.cell)) (le-ltb l.cell.cycle u.cycles late)
          ∙ sym (ap (λ t. t && is_set (word_for l.bit (words_at planes (block_of u l.cell))) (bit_of l.cell)) (le-ltb l.cell.cycle u.cycles late))
    ]

-- a block's words are read for its signal and chunk
pub signal-within : (signals chunks : ℕ) (flat : List ℕ) (mark : Option (List PinWord)) (planes : PlaneSet) → IsLaidOut signals chunks flat → over signals chunks (words_from signals chunks flat) mark ≡ planes
    → (b : ℕ) → b < length planes.words → b / chunks < planes.signals
signal-within signals chunks flat mark planes laid view b h =
    let some : 1 ≤ chunks = laid.some_chunks in
    let size : length planes.words ≡ signals * chunks = ap (λ (p : PlaneSet). length p.words) (sym view) ∙ words-size signals chunks flat in
    subst (λ (p : PlaneSet). b / chunks < p.signals) view (div_below b chunks signals (omega (arith, some)) (subst (λ n. b < n) size h))

pub word-of_block : (signals chunks : ℕ) (flat : List ℕ) (mark : Option (List PinWord)) (planes : PlaneSet) → over signals chunks (words_from signals chunks flat) mark ≡ planes
    → (b : Block) (w : PinWord) → w ≡ pair_in planes (b.0 / chunks) (b.0 % chunks) → w ≡ words_at planes b
word-of_block signals chunks flat mark planes view b w is =
    is ∙ ap (λ n. get_or planes.words (b.0 / chunks * n + b.0 % chunks) no_words) (ap (λ (p : PlaneSet). p.chunks) (sym view))
    ∙ ap (λ n. get_or planes.words n no_words) (plus-swap (b.0 / chunks * chunks) (b.0 % chunks) ∙ mod-add-div' b.0 chunks)
  where
    plus-swap : (m n : ℕ) → m + n ≡ n + m
    plus-swap m n = omega arith

-- where all words are 0
module _ (u : Unrolling) (signals chunks n : ℕ) (flat : List ℕ) (signals_is : signals ≡ signals_in u) (chunks_is : chunks ≡ chunks_in u) (zeros : flat ≡ replicate n 0) where
  zero-at : (i : ℕ) → get_or flat i 0 ≡ 0
  zero-at i =
      ap (λ ws. get_or ws i 0) zeros ∙ elim (cases_lt i n) [
        | inl h ↦ get_or-replicate n i 0 0 h
        | inr h ↦ get_or-eq_default (replicate n 0) 0 (subst (λ m. m ≤ i) (sym (length-replicate n 0)) h)
      ]

  no-words : (b : Block) → words_at (over signals chunks (words_from signals chunks flat) None) b ≡ no_words
  no-words b =
      elim (cases_lt b.0 (signals * chunks)) [
        | inl h ↦
            words-by-number signals chunks flat b.0 h
            ∙ ap (λ z. record { zero = z; one = (pair_of signals chunks flat b.0).one }) (zero-at _) ∙ ap (λ o. record { zero = 0; one = o }) (zero-at _)
        | inr h ↦ get_or-eq_default (words_from signals chunks flat) no_words (subst (λ m. m ≤ b.0) (sym (words-size signals chunks flat)) h)
      ]

  bit-unset : (b : Block) (bit : Bool) (i : ℕ) → is_set (word_for bit (words_at (over signals chunks (words_from signals chunks flat) None) b)) i ≡ false
  bit-unset b bit i = ap (λ w. is_set (word_for bit w) i) (no-words b) ∙ unset bit
    where
      unset : (bit : Bool) → is_set (word_for bit no_words) i ≡ false
      unset true = is_set_zero i
      unset false = is_set_zero i

  pub empty-of : IsOf u (over signals chunks (words_from signals chunks flat) None)
  empty-of =
      record {
        signals = signals_is;
        chunks = chunks_is;
        blocks = words-size signals chunks flat ∙ ap (λ m. m * chunks) signals_is ∙ ap (λ m. signals_in u * m) chunks_is;
        no_later = λ b h bit i few set. absurd (cc (bit-unset b bit i, set));
      }

  pub empty-has : (l : Lit) → has u (over signals chunks (words_from signals chunks flat) None) l ≡ false
  empty-has l = ap (λ t. nat_lt l.cell.cycle u.cycles && t) (bit-unset (block_of u l.cell) l.bit (bit_of l.cell)) ∙ and-false (nat_lt l.cell.cycle u.cycles)
    where
      and-false : (t : Bool) → (t && false) ≡ false
      and-false true = refl
      and-false false = refl

-- the same words by signal and chunk
pub in-block : (u : Unrolling) (planes : PlaneSet) → IsOf u planes → (s chunk : ℕ) → pair_in planes s chunk ≡ words_at planes (block_at u (record { 0 = s }) chunk)
in-block u planes of s chunk = ap (λ n. get_or planes.words (s * n + chunk) no_words) of.chunks

-- words without the bits of cycles that are not there
pub within-none : (cycles chunk valid : ℕ) (w masked : PinWord) → ((bit : Bool) (i : ℕ) → is_set (word_for bit masked) i ≡ (is_set (word_for bit w) i && is_set valid i))
    → ((i : ℕ) → i < 64 → is_set valid i ≡ is_cycle cycles chunk i) → HasNoLaterBit cycles chunk masked
within-none cycles chunk valid w masked bits says bit i few set = sym (says i few) ∙ (and_parts (is_set (word_for bit w) i) (is_set valid i) (sym (bits bit i) ∙ set)).1
