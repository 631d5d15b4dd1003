-- The words of blocks in the flat list.
use Rattle.std.specs.Prelude.{Option}
use Rattle.std.proofs.Common.{ℕ, ◌≡◌, ◌+◌, ◌*◌, ◌/◌, ◌%◌, ◌<◌, ◌≤◌, List, length, get_or, set, length-set, arith, inl, inr, sym, ap, subst, ◌∙◌}
use Rattle.std.proofs.lemmas.Bool.{cases_eq}
use Rattle.std.proofs.lemmas.List.{ext_get_or, get_or-set_same, get_or-set_other}
use Rattle.std.proofs.lemmas.Grind.{get_or_default_zero}
use Rattle.std.proofs.lemmas.List.FromFn.{length-map-range_with_len, get_or-map-range_with_len}
use Rattle.std.proofs.lemmas.Nat.{div-mul-add, mod-mul-add, mul-add-lt, same_from_place, div_below}
use Rattle.std.proofs.Math.Nat.{mod-add-div'}
use Rattle.unroll.specs.declared.words.PinWord.{PinWord}
use Rattle.known_planes.specs.Planes.{PlaneSet, pair_in}
use Rattle.known_planes.specs.Layout.{place_of, pair_at, pair_of, words_from, IsLaidOut}
use Rattle.unroll.specs.Bits.{no_words}

times-swap : (a b : ℕ) → a * b ≡ b * a
times-swap a b = grind arith

-- a block's number
pub number-within : (signals chunks s chunk : ℕ) → s < signals → chunk < chunks → s * chunks + chunk < signals * chunks
number-within signals chunks s chunk h k = subst (λ n. s * chunks + chunk < n) (times-swap chunks signals) (mul-add-lt s chunks chunk signals h k)

-- both words are before the further one
pub place-within : (signals chunks s chunk : ℕ) → s < signals → chunk < chunks → place_of signals s chunk + 1 < 2 * (signals * chunks)
place-within signals chunks s chunk h k =
    let below : chunk * signals + s < signals * chunks = mul-add-lt chunk signals s chunks k h in
    omega (arith, below)

module _ (signals chunks : ℕ) (flat : List ℕ) where
  pub words-size : length (words_from signals chunks flat) ≡ signals * chunks
  words-size = length-map-range_with_len (pair_of signals chunks flat) 0 (signals * chunks)

  pub words-by-number : (b : ℕ) → b < signals * chunks → get_or (words_from signals chunks flat) b no_words ≡ pair_of signals chunks flat b
  words-by-number b h = get_or-map-range_with_len (pair_of signals chunks flat) 0 (signals * chunks) b b no_words h (omega arith)

  pub words-by-place : (s chunk : ℕ) → s < signals → chunk < chunks → get_or (words_from signals chunks flat) (s * chunks + chunk) no_words ≡ pair_at flat (place_of signals s chunk)
  words-by-place s chunk h k =
      let by : get_or (words_from signals chunks flat) (s * chunks + chunk) no_words ≡ pair_of signals chunks flat (s * chunks + chunk) = words-by-number (s * chunks + chunk) (number-within signals chunks s chunk h k) in
      by ∙ ap (λ n. pair_at flat (place_of signals n ((s * chunks + chunk) % chunks))) (div-mul-add s chunks chunk k)
      ∙ ap (λ n. pair_at flat (place_of signals s n)) (mod-mul-add s chunks chunk k)

-- planes over so many signals and chunks
abbrev pub over : ℕ → ℕ → List PinWord → Option (List PinWord) → PlaneSet
over signals chunks words mark = record { signals = signals; chunks = chunks; words = words; mark = mark }

-- the words that are read at the place of a signal in a chunk
pub pair-read : (signals chunks : ℕ) (flat : List ℕ) (mark : Option (List PinWord)) (planes : PlaneSet) → IsLaidOut signals chunks flat
    → over signals chunks (words_from signals chunks flat) mark ≡ planes
    → (s chunk : ℕ) → s < planes.signals → chunk < planes.chunks
    → (place : ℕ) → place ≡ place_of signals s chunk → (z o : ℕ) → z ≡ get_or flat place z → o ≡ get_or flat (place + 1) o
    → record { zero = z; one = o } ≡ pair_in planes s chunk
pair-read signals chunks flat mark planes laid view s chunk h k place at z o zero one =
    let s_in : s < signals = subst (λ (p : PlaneSet). s < p.signals) (sym view) h in
    let chunk_in : chunk < chunks = subst (λ (p : PlaneSet). chunk < p.chunks) (sym view) k in
    let within : place_of signals s chunk + 1 < 2 * (signals * chunks) = place-within signals chunks s chunk s_in chunk_in in
    let size : length flat ≡ 2 * (signals * chunks) + 1 = laid.size in
    let z_is : z ≡ get_or flat place 0 = zero ∙ get_or_default_zero flat place z (omega (arith, at, within, size)) in
    let o_is : o ≡ get_or flat (place + 1) 0 = one ∙ get_or_default_zero flat (place + 1) o (omega (arith, at, within, size)) in
    ap (λ n. record { zero = n; one = o }) z_is ∙ ap (λ n. record { zero = get_or flat place 0; one = n }) o_is
    ∙ ap (pair_at flat) at ∙ sym (words-by-place signals chunks flat s chunk s_in chunk_in)
    ∙ ap (λ (p : PlaneSet). pair_in p s chunk) view

module _ (signals chunks : ℕ) (flat : List ℕ) (laid : IsLaidOut signals chunks flat) (s chunk : ℕ) (h : s < signals) (k : chunk < chunks) (z o : ℕ) where
  room : place_of signals s chunk + 1 < length flat
  room =
      let size : length flat ≡ 2 * (signals * chunks) + 1 = laid.size in
      let below : place_of signals s chunk + 1 < 2 * (signals * chunks) = place-within signals chunks s chunk h k in
      omega (arith, size, below)

  -- what is read at the place
  read-there : pair_at (set (set flat (place_of signals s chunk) z) (place_of signals s chunk + 1) o) (place_of signals s chunk) ≡ record { zero = z; one = o }
  read-there =
      let first : get_or (set (set flat (place_of signals s chunk) z) (place_of signals s chunk + 1) o) (place_of signals s chunk) 0 ≡ z =
      get_or-set_other (set flat (place_of signals s chunk) z) (place_of signals s chunk + 1) (place_of signals s chunk) o 0 (λ e. omega (arith, e))
      ∙ get_or-set_same flat (place_of signals s chunk) z 0 (omega (arith, room)) in
      let second : get_or (set (set flat (place_of signals s chunk) z) (place_of signals s chunk + 1) o) (place_of signals s chunk + 1) 0 ≡ o =
      get_or-set_same (set flat (place_of signals s chunk) z) (place_of signals s chunk + 1) o 0
      (subst (λ n. place_of signals s chunk + 1 < n) (sym (length-set flat (place_of signals s chunk) z)) room) in
      ap (λ n. record { zero = n; one = get_or (set (set flat (place_of signals s chunk) z) (place_of signals s chunk + 1) o) (place_of signals s chunk + 1) 0 }) first
      ∙ ap (λ n. record { zero = z; one = n }) second

  -- and at another
  read-elsewhere : (t : ℕ) → (t ≡ chunk * signals + s → ⊥) → pair_at (set (set flat (place_of signals s chunk) z) (place_of signals s chunk + 1) o) (2 * t) ≡ pair_at flat (2 * t)
  read-elsewhere t apart =
      let first : get_or (set (set flat (place_of signals s chunk) z) (place_of signals s chunk + 1) o) (2 * t) 0 ≡ get_or flat (2 * t) 0 =
      get_or-set_other (set flat (place_of signals s chunk) z) (place_of signals s chunk + 1) (2 * t) o 0 (λ e. omega (arith, e))
      ∙ get_or-set_other flat (place_of signals s chunk) (2 * t) z 0 (λ e. apart (omega (arith, e))) in
      let second : get_or (set (set flat (place_of signals s chunk) z) (place_of signals s chunk + 1) o) (2 * t + 1) 0 ≡ get_or flat (2 * t + 1) 0 =
      get_or-set_other (set flat (place_of signals s chunk) z) (place_of signals s chunk + 1) (2 * t + 1) o 0 (λ e. apart (omega (arith, e)))
      ∙ get_or-set_other flat (place_of signals s chunk) (2 * t + 1) z 0 (λ e. omega (arith, e)) in
      ap (λ n. record { zero = n; one = get_or (set (set flat (place_of signals s chunk) z) (place_of signals s chunk + 1) o) (2 * t + 1) 0 }) first
      ∙ ap (λ n. record { zero = get_or flat (2 * t) 0; one = n }) second

  -- a block whose words lie at the place is that of the signal in the chunk
  one-block : (b : ℕ) → b < signals * chunks → b % chunks * signals + b / chunks ≡ chunk * signals + s → b ≡ s * chunks + chunk
  one-block b below e =
      let some : 1 ≤ chunks = laid.some_chunks in
      let row : b / chunks < signals = div_below b chunks signals (omega (arith, some)) below in
      let same : (b % chunks ≡ chunk) × (b / chunks ≡ s) = same_from_place (b % chunks) (b / chunks) chunk s signals row h e in
      let whole : b % chunks + b / chunks * chunks ≡ b = mod-add-div' b chunks in
      sym whole ∙ ap (λ n. n + b / chunks * chunks) same.0 ∙ ap (λ n. chunk + n * chunks) same.1 ∙ plus-swap chunk (s * chunks)
    where
      plus-swap : (m n : ℕ) → m + n ≡ n + m
      plus-swap m n = omega arith

  abbrev new : List ℕ
  new = set (set flat (place_of signals s chunk) z) (place_of signals s chunk + 1) o

  abbrev w : PinWord
  w = record { zero = z; one = o }

  pub words-written : words_from signals chunks (set (set flat (place_of signals s chunk) z) (place_of signals s chunk + 1) o)
      ≡ set (words_from signals chunks flat) (s * chunks + chunk) (record { zero = z; one = o })
  words-written =
      ext_get_or no_words (words_from signals chunks new) (set (words_from signals chunks flat) (s * chunks + chunk) w)
      (words-size signals chunks new ∙ sym (length-set (words_from signals chunks flat) (s * chunks + chunk) w ∙ words-size signals chunks flat))
      (λ b below. each b (subst (λ n. b < n) (words-size signals chunks new) below))
    where
      at-block : get_or (words_from signals chunks new) (s * chunks + chunk) no_words ≡ get_or (set (words_from signals chunks flat) (s * chunks + chunk) w) (s * chunks + chunk) no_words
      at-block =
          words-by-place signals chunks new s chunk h k ∙ read-there
          ∙ sym (get_or-set_same (words_from signals chunks flat) (s * chunks + chunk) w no_words
          (subst (λ n. s * chunks + chunk < n) (sym (words-size signals chunks flat)) (number-within signals chunks s chunk h k)))

      each : (b : ℕ) → b < signals * chunks → get_or (words_from signals chunks new) b no_words ≡ get_or (set (words_from signals chunks flat) (s * chunks + chunk) w) b no_words
      each b below =
          elim (cases_eq b (s * chunks + chunk)) [
            | inl same ↦ subst (λ n. get_or (words_from signals chunks new) n no_words ≡ get_or (set (words_from signals chunks flat) (s * chunks + chunk) w) n no_words) (sym same) at-block
            | inr other ↦
                words-by-number signals chunks new b below
                ∙ read-elsewhere (b % chunks * signals + b / chunks) (λ e. other (one-block b below e))
                ∙ sym (words-by-number signals chunks flat b below)
                ∙ sym (get_or-set_other (words_from signals chunks flat) (s * chunks + chunk) b w no_words other)
          ]
