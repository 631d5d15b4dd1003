-- The words that come of putting changes back.
use Rattle.std.specs.Prelude.{Option, None, Some}
use Rattle.std.proofs.Common.{ℕ, ◌≡◌, ◌+◌, ◌*◌, ◌<◌, List, [], ◌∷◌, ◌++◌, length, get_or, set, length-set, inl, inr, refl, sym, ap, subst, ◌∙◌}
use Rattle.std.specs.List.{Contains}
use Rattle.std.proofs.lemmas.Bool.{cases_eq}
use Rattle.std.proofs.lemmas.List.{ext_get_or, get_or-set_same, get_or-set_other, set-set, set-get_or}
use Rattle.sr_model.proofs.lemmas.Members.{not_in_nil, Contains-cases}
use Rattle.unroll.specs.declared.problem.InChunk.{InChunk}
use Rattle.unroll.specs.declared.words.PinWord.{PinWord}
use Rattle.unroll.specs.Bits.{no_words}
use Rattle.sr_model.specs.declared.cells.Sig.{Sig}
use Rattle.known_planes.specs.declared.mark.Change.{Change}
use Rattle.known_planes.specs.Layout.{IsLaidOut, pair_at, place_of, words_from}
use Rattle.known_planes.specs.Planes.{PlaneSet}
use Rattle.known_planes.proofs.Layouts.{over, words-by-place, words-written}
use Rattle.known_planes.specs.Marks.{Noted, Notes, blocks_of, words_back, mark_of}

abbrev number : ℕ → InChunk → ℕ
number chunks at = at.sig.0 * chunks + at.chunk

pub back-length : (chunks : ℕ) (changes : List Change) (words : List PinWord) → length (words_back chunks changes words) ≡ length words
back-length chunks [] words = refl
back-length chunks (change ∷ later) words = length-set (words_back chunks later words) (number chunks change.at) change.before ∙ back-length chunks later words

-- the last change is put back first
pub back-push : (chunks : ℕ) (changes : List Change) (last : Change) (words : List PinWord)
    → words_back chunks (changes ++ last ∷ []) words ≡ words_back chunks changes (set words (number chunks last.at) last.before)
back-push chunks [] last words = refl
back-push chunks (change ∷ later) last words = ap (λ ws. set ws (number chunks change.at) change.before) (back-push chunks later last words)

-- what words are there does not matter where a change is put back
module _ (chunks : ℕ) (old new : List PinWord) (same : length old ≡ length new) (i : ℕ) (within : i < length old) where
  put-here : (change : Change) (later : List Change) → i ≡ number chunks change.at
      → get_or (words_back chunks (change ∷ later) old) i no_words ≡ get_or (words_back chunks (change ∷ later) new) i no_words
  put-here change later here =
      there old (subst (λ n. i < n) (sym (back-length chunks later old)) within)
      ∙ sym (there new (subst (λ n. i < n) (sym (back-length chunks later new)) (subst (λ n. i < n) same within)))
    where
      there : (words : List PinWord) → i < length (words_back chunks later words) → get_or (words_back chunks (change ∷ later) words) i no_words ≡ change.before
      there words h =
          ap (λ n. get_or (set (words_back chunks later words) n change.before) i no_words) (sym here)
          ∙ get_or-set_same (words_back chunks later words) i change.before no_words h

  put-elsewhere : (change : Change) (later : List Change) → (i ≡ number chunks change.at → ⊥)
      → get_or (words_back chunks later old) i no_words ≡ get_or (words_back chunks later new) i no_words
      → get_or (words_back chunks (change ∷ later) old) i no_words ≡ get_or (words_back chunks (change ∷ later) new) i no_words
  put-elsewhere change later other before =
      get_or-set_other (words_back chunks later old) (number chunks change.at) i change.before no_words other ∙ before
      ∙ sym (get_or-set_other (words_back chunks later new) (number chunks change.at) i change.before no_words other)

  back-same : (changes : List Change) → get_or old i no_words ≡ get_or new i no_words
      → get_or (words_back chunks changes old) i no_words ≡ get_or (words_back chunks changes new) i no_words
  back-same [] e = e
  back-same (change ∷ later) e =
      elim (cases_eq i (number chunks change.at)) [
        | inl here ↦ put-here change later here
        | inr other ↦ put-elsewhere change later other (back-same later e)
      ]

  back-listed : (changes : List Change) (at : InChunk) → Contains (blocks_of changes) at → i ≡ number chunks at
      → get_or (words_back chunks changes old) i no_words ≡ get_or (words_back chunks changes new) i no_words
  back-listed [] at listed here = absurd (not_in_nil at listed)
  back-listed (change ∷ later) at listed here =
      elim (cases_eq i (number chunks change.at)) [
        | inl first ↦ put-here change later first
        | inr other ↦
            elim (Contains-cases change.at (blocks_of later) at listed) [
              | inl is ↦ absurd (other (here ∙ ap (number chunks) (sym is)))
              | inr more ↦ put-elsewhere change later other (back-listed later at more here)
            ]
      ]

-- once a block's change is noted, its words can be replaced
pub back-noted : (chunks : ℕ) (change : Change) (old new : List Change) (words : List PinWord) (w : PinWord) → Notes change old new
    → change.before ≡ get_or words (number chunks change.at) no_words
    → words_back chunks new (set words (number chunks change.at) w) ≡ words_back chunks old words
back-noted chunks change old new words w notes before =
    elim notes [
      | inl pushed ↦
          ap (λ cs. words_back chunks cs (set words n w)) pushed ∙ back-push chunks old change (set words n w)
          ∙ ap (words_back chunks old) (set-set words n w change.before ∙ ap (set words n) before ∙ set-get_or words n no_words)
      | inr listed ↦ ap (λ cs. words_back chunks cs (set words n w)) listed.0 ∙ replaced listed.1
    ]
  where
    n : ℕ
    n = number chunks change.at

    sizes : length (set words n w) ≡ length words
    sizes = length-set words n w

    replaced : Contains (blocks_of old) change.at → words_back chunks old (set words n w) ≡ words_back chunks old words
    replaced listed =
        ext_get_or no_words (words_back chunks old (set words n w)) (words_back chunks old words)
        (back-length chunks old (set words n w) ∙ sizes ∙ sym (back-length chunks old words))
        (λ i h.
        let within : i < length (set words n w) = subst (λ m. i < m) (back-length chunks old (set words n w)) h in
        elim (cases_eq i n) [
          | inl here ↦ back-listed chunks (set words n w) words sizes i within old change.at listed here
          | inr other ↦ back-same chunks (set words n w) words sizes i within old (get_or-set_other words n i w no_words other)
        ])

-- the words that are written at the place of a signal in a chunk, with what is noted of it
module _ (signals chunks : ℕ) (flat : List ℕ) (noted : Option Noted) (planes : PlaneSet) (laid : IsLaidOut signals chunks flat)
    (view : over signals chunks (words_from signals chunks flat) (mark_of chunks (words_from signals chunks flat) noted) ≡ planes)
    (s chunk place : ℕ) (h : s < planes.signals) (k : chunk < planes.chunks) (at : place ≡ place_of signals s chunk)
    (w : PinWord) (new : List ℕ) (new_is : new ≡ set (set flat place w.zero) (place + 1) w.one) where
  abbrev words : List PinWord
  words = words_from signals chunks flat

  s-in : s < signals
  s-in = subst (λ (p : PlaneSet). s < p.signals) (sym view) h

  chunk-in : chunk < chunks
  chunk-in = subst (λ (p : PlaneSet). chunk < p.chunks) (sym view) k

  written : words_from signals chunks new ≡ set words (s * chunks + chunk) w
  written =
      ap (words_from signals chunks) (new_is ∙ ap (λ n. set (set flat n w.zero) (n + 1) w.one) at)
      ∙ words-written signals chunks flat laid s chunk s-in chunk-in w.zero w.one

  abbrev after : PlaneSet
  after = record { signals = planes.signals; chunks = planes.chunks; words = set planes.words (s * planes.chunks + chunk) w; mark = planes.mark }

  kept : (now : Option Noted) → mark_of chunks (set words (s * chunks + chunk) w) now ≡ mark_of chunks words noted → over signals chunks (words_from signals chunks new) (mark_of chunks (words_from signals chunks new) now) ≡ after
  kept now same =
      ap (λ ws. over signals chunks ws (mark_of chunks ws now)) written ∙ ap (over signals chunks (set words (s * chunks + chunk) w)) same
      ∙ ap (λ (p : PlaneSet). record { signals = p.signals; chunks = p.chunks; words = set p.words (s * p.chunks + chunk) w; mark = p.mark }) view

  pub written-unmarked : noted ≡ None → over signals chunks (words_from signals chunks new) (mark_of chunks (words_from signals chunks new) noted) ≡ after
  written-unmarked none = kept noted (ap (mark_of chunks (set words (s * chunks + chunk) w)) none ∙ sym (ap (mark_of chunks words) none))

  pub written-noted : (old now : Noted) (sig : Sig) (before : PinWord) → noted ≡ Some old → sig.0 ≡ s → before ≡ pair_at flat place → Notes (record { at = record { sig = sig; chunk = chunk }; before = before }) old.changes now.changes
      → over signals chunks (words_from signals chunks new) (mark_of chunks (words_from signals chunks new) (Some now)) ≡ after
  written-noted old now sig before is sig_is before_is notes =
      kept (Some now)
      (ap Some (ap (λ n. words_back chunks now.changes (set words (n * chunks + chunk) w)) (sym sig_is)
      ∙ back-noted chunks (record { at = record { sig = sig; chunk = chunk }; before = before }) old.changes now.changes words w notes
      (before_is ∙ ap (pair_at flat) at ∙ sym (words-by-place signals chunks flat s chunk s-in chunk-in)
      ∙ ap (λ n. get_or words (n * chunks + chunk) no_words) (sym sig_is)))
      ∙ sym (ap (mark_of chunks words) is))
