-- Words of which so much is known, and the rest of them.
use Rattle.std.proofs.Common.{ℕ, zero, suc, arith, ◌*◌, ◌+◌, ◌≡◌, ◌<◌, ◌≤◌, ◌^◌, ◌&&◌, ◌||◌, Bool, true, false, not, List, length, map, get_or, inl, inr, refl, sym, ap, subst, ◌∙◌}
use Rattle.std.proofs.lemmas.Bool.{eq-eqb, eqb-true, and_from, and_parts, cases_lt, or_cases, or_left, or_right, true≢false}
use Rattle.std.specs.Prelude.{◌==◌}
use Rattle.std.specs.List.{All}
use Rattle.std.specs.Int.{w64, trailing_zeros}
use Rattle.std.proofs.lemmas.List.{get_or-map, length-map}
use Rattle.sr_model.specs.declared.cells.Cell.{Cell}
use Rattle.sr_model.specs.Closure.{HasBoth}
use Rattle.unroll.specs.declared.problem.Block.{Block}
use Rattle.gate_rules.specs.Lanes.{words_at_place}
use Rattle.known_planes.proofs.lemmas.Planes.{both-here, in-block, lowest-bit}
use Rattle.plain_close.specs.Changes.{HaveNoClashWith}
use Rattle.plain_close.proofs.Joining.{block-is, is-inside}
use Rattle.unroll.specs.declared.problem.InChunk.{InChunk}
use Rattle.unroll.specs.declared.words.PinWord.{PinWord}
use Rattle.unroll.specs.Bits.{is_set, no_words, word_for}
use Rattle.unroll.specs.Problem.{Unrolling, IsInside, block_in}
use Rattle.unroll.proofs.lemmas.Words.{is_set_above, is_set_zero}
use Rattle.known_planes.specs.Planes.{PlaneSet, IsOf, has_bit, lits, words_at}
use Rattle.plain_close.specs.Turns.{AreInBlock, AreWordsOf, HasEach, JoinsFirst}

pub neither : (a b : Bool) → (a || b) ≡ false → (a ≡ false) × (b ≡ false)
neither false false e = (refl, refl)
neither true b e = cc
neither false true e = cc

no-more : (a b : Bool) → (a && not b) ≡ false → a ≡ true → b ≡ true
no-more a true e set = refl
no-more true false e set = sym e
no-more false false e set = set

-- where there is no cycle with a literal that is not known, all literals are there
pub all-there : (u : Unrolling) (planes : PlaneSet) (at : InChunk) (known words rest : PinWord) (fresh : ℕ) → AreInBlock u planes at known
    → ((bit : Bool) (i : ℕ) → i < 64 → is_set (word_for bit rest) i ≡ (is_set (word_for bit words) i && not (is_set (word_for bit known) i)))
    → ((i : ℕ) → is_set fresh i ≡ (is_set rest.zero i || is_set rest.one i)) → words.zero < 2 ^ 64 → words.one < 2 ^ 64
    → (bit : Bool) (i : ℕ) → is_set fresh i ≡ false → is_set (word_for bit words) i ≡ true → has_bit planes (block_in u at) bit i ≡ true
all-there u planes at known words rest fresh there rest_is fresh_is small_zero small_one bit i none set =
    elim (cases_lt i 64) [
      | inl few ↦ there bit i (no-more (is_set (word_for bit words) i) (is_set (word_for bit known) i) (sym (rest_is bit i few) ∙ unset bit) set)
      | inr past ↦ absurd (true≢false (sym set ∙ above bit past))
    ]
  where
    unset : (b : Bool) → is_set (word_for b rest) i ≡ false
    unset true = (neither (is_set rest.zero i) (is_set rest.one i) (sym (fresh_is i) ∙ none)).1
    unset false = (neither (is_set rest.zero i) (is_set rest.one i) (sym (fresh_is i) ∙ none)).0

    above : (b : Bool) → 64 ≤ i → is_set (word_for b words) i ≡ false
    above true past = is_set_above words.one i small_one past
    above false past = is_set_above words.zero i small_zero past

-- the words that a task saw of a block
seen-word : (u : Unrolling) (planes : PlaneSet) (in_chunks : List InChunk) (known : List PinWord) (j : ℕ) (d : InChunk) → AreWordsOf u planes in_chunks known → j < length in_chunks
    → words_at_place known j ≡ words_at planes (block_in u (get_or in_chunks j d))
seen-word u planes in_chunks known j d are within = ap (λ ws. get_or ws j no_words) are ∙ get_or-map (λ at. words_at planes (block_in u at)) in_chunks j d no_words within

-- the words of a block that were there when a task saw them, in planes that lost nothing since
pub seen-in-block : (u : Unrolling) (old new : PlaneSet) (in_chunks : List InChunk) (known : List PinWord) (index : ℕ) (d : InChunk) → AreWordsOf u old in_chunks known → index < length in_chunks
    → ((bit : Bool) (i : ℕ) → has_bit old (block_in u (get_or in_chunks index d)) bit i ≡ true → has_bit new (block_in u (get_or in_chunks index d)) bit i ≡ true)
    → AreInBlock u new (get_or in_chunks index d) (get_or known index no_words)
seen-in-block u old new in_chunks known index d are within kept bit i set =
    kept bit i (subst (λ (w : PinWord). is_set (word_for bit w) i ≡ true) (seen-word u old in_chunks known index d are within) set)

-- where no cell has both literals among those that were seen and those that are forced
pub no_clash-by : (u : Unrolling) (planes : PlaneSet) (in_chunks : List InChunk) (known out : List PinWord) → AreWordsOf u planes in_chunks known
    → ((j : ℕ) → j < length in_chunks → (i : ℕ) → i < 64 → HasEach (words_at_place known j) (words_at_place out j) i → ⊥) → HaveNoClashWith planes (map (block_in u) in_chunks) out
no_clash-by u planes in_chunks known out are none j i within few both =
    none j inside i few (λ bit. elim (both bit) [
      | inl has ↦ inl (ap (λ (w : PinWord). is_set (word_for bit w) i) (seen-word u planes in_chunks known j nowhere are inside) ∙ ap (λ b. has_bit planes b bit i) (sym (block-is u in_chunks j nowhere (get_or in_chunks j nowhere) inside refl)) ∙ has)
      | inr set ↦ inr set
    ])
  where
    inside : j < length in_chunks
    inside = subst (λ n. j < n) (length-map in_chunks (block_in u)) within

    nowhere : InChunk
    nowhere = record { sig = record { 0 = 0 }; chunk = 0 }

-- where one has both, it has both then
pub clash-by : (u : Unrolling) (old new : PlaneSet) (in_chunks : List InChunk) (known out : List PinWord) → AreWordsOf u old in_chunks known → All (IsInside u) in_chunks → IsOf u new
    → ((b : Block) (bit : Bool) (i : ℕ) → has_bit old b bit i ≡ true → has_bit new b bit i ≡ true) → JoinsFirst (map (block_in u) in_chunks) out (length in_chunks) old new
    → (j : ℕ) → j < length in_chunks → (i : ℕ) × (i < 64) × HasEach (words_at_place known j) (words_at_place out j) i → (c : Cell) × HasBoth (lits u new) c
clash-by u old new in_chunks known out are inside of kept joins j within (i, few, both) = (
  record { cycle = 64 * at.chunk + i; sig = at.sig },
  both-here u new of at.sig at.chunk i (is-inside u in_chunks j nowhere at within refl inside).0 (is-inside u in_chunks j nowhere at within refl inside).1 few
      (ap (λ (x : PinWord). is_set x.zero i && is_set x.one i) (in-block u new of at.sig.0 at.chunk)
      ∙ and_from (has_bit new (block_in u at) false i) (has_bit new (block_in u at) true i) (set false) (set true)),
)
  where
    nowhere : InChunk
    nowhere = record { sig = record { 0 = 0 }; chunk = 0 }

    at : InChunk
    at = get_or in_chunks j nowhere

    set : (bit : Bool) → has_bit new (block_in u at) bit i ≡ true
    set bit =
        elim (both bit) [
          | inl seen ↦ kept (block_in u at) bit i (subst (λ (w : PinWord). is_set (word_for bit w) i ≡ true) (seen-word u old in_chunks known j nowhere are within) seen)
          | inr forced ↦ joins.joined (block_in u at) bit i (record { index = j; first = within; block = block-is u in_chunks j nowhere at within refl; set = forced })
        ]

pub each-of-two : (P : ℕ → Type 0) → P 0 → P 1 → (j : ℕ) → j < 2 → P j
each-of-two P a b zero h = a
each-of-two P a b (suc zero) h = b
each-of-two P a b (suc (suc k)) h = absurd (omega (arith, h))

pub each-of-three : (P : ℕ → Type 0) → P 0 → P 1 → P 2 → (j : ℕ) → j < 3 → P j
each-of-three P a b c zero h = a
each-of-three P a b c (suc zero) h = b
each-of-three P a b c (suc (suc zero)) h = c
each-of-three P a b c (suc (suc (suc k))) h = absurd (omega (arith, h))

not-false : (b : Bool) → not b ≡ false → b ≡ true
not-false true e = refl
not-false false e = sym e

not-true : (b : Bool) → not b ≡ true → b ≡ false
not-true true e = sym e
not-true false e = refl

module _ (known out all : PinWord) (both : ℕ) (all_is : (bit : Bool) (i : ℕ) → is_set (word_for bit all) i ≡ (is_set (word_for bit known) i || is_set (word_for bit out) i))
    (both_is : (i : ℕ) → is_set both i ≡ (is_set all.zero i && is_set all.one i)) where
  -- no cell has each of its literals in one of the words
  pub each-none : not (both == 0) ≡ false → (i : ℕ) → i < 64 → HasEach known out i → ⊥
  each-none none i few each =
      true≢false (sym (and_from (is_set all.zero i) (is_set all.one i) (in-all false) (in-all true)) ∙ sym (both_is i) ∙ ap (λ n. is_set n i) (eqb-true both 0 (not-false (both == 0) none)) ∙ is_set_zero i)
    where
      in-all : (bit : Bool) → is_set (word_for bit all) i ≡ true
      in-all bit = all_is bit i ∙ elim (each bit) [
        | inl seen ↦ or_left (is_set (word_for bit known) i) (is_set (word_for bit out) i) seen
        | inr forced ↦ or_right (is_set (word_for bit known) i) (is_set (word_for bit out) i) forced
      ]

  -- or some cell has
  pub each-some : not (both == 0) ≡ true → both < 2 ^ 64 → (i : ℕ) × (i < 64) × HasEach known out i
  each-some some small =
      let lowest = lowest-bit both (λ e. true≢false (sym (eq-eqb both 0 e) ∙ not-true (both == 0) some)) small in
      (trailing_zeros w64 both, lowest.0, λ bit. or_cases (is_set (word_for bit known) (trailing_zeros w64 both)) (is_set (word_for bit out) (trailing_zeros w64 both)) (sym (all_is bit (trailing_zeros w64 both)) ∙ in-all bit (sym (both_is (trailing_zeros w64 both)) ∙ lowest.1)))
    where
      in-all : (bit : Bool) → (is_set all.zero (trailing_zeros w64 both) && is_set all.one (trailing_zeros w64 both)) ≡ true → is_set (word_for bit all) (trailing_zeros w64 both) ≡ true
      in-all true h = (and_parts (is_set all.zero (trailing_zeros w64 both)) (is_set all.one (trailing_zeros w64 both)) h).1
      in-all false h = (and_parts (is_set all.zero (trailing_zeros w64 both)) (is_set all.one (trailing_zeros w64 both)) h).0
