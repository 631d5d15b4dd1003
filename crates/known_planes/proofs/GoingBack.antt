-- Changes that are put back one after another.
use Rattle.std.specs.Prelude.{Option, Some, unwrap_or}
use Rattle.std.proofs.Common.{ℕ, ◌≡◌, ◌+◌, ◌*◌, ◌<◌, ◌≤◌, Bool, true, false, List, [], ◌∷◌, ◌++◌, length, get_or, set, length-set, arith, sym, ap, subst, ◌∙◌}
use Rattle.std.proofs.lemmas.List.{get_or-set_other, length_push}
use Rattle.netlist.specs.Wiring.{driver_at, is_flip_flop}
use Rattle.sr_model.specs.Netlist.{Driver}
use Rattle.unroll.specs.declared.words.PinWord.{PinWord}
use Rattle.unroll.specs.Bits.{no_words}
use Rattle.unroll.specs.Problem.{Unrolling, chunks_in, signals_in}
use Rattle.known_planes.specs.declared.mark.Change.{Change}
use Rattle.known_planes.specs.Counts.{known_bits, known_by_words, known_count}
use Rattle.known_planes.specs.Layout.{IsLaidOut, pair_at, place_of, words_from}
use Rattle.known_planes.specs.Marks.{IsAmong, IsNotedOver, Noted, mark_of, words_back}
use Rattle.known_planes.specs.Planes.{PlaneSet, IsMarked, IsOf, back_at, has}
use Rattle.known_planes.proofs.KnownWords.{known-flip_flop, known-gate, known-within, known-words}
use Rattle.known_planes.proofs.Layouts.{number-within, over, place-within, words-by-place, words-size, words-written}
use Rattle.known_planes.proofs.Marks.{back-push}

-- the words come to the same, and so does the count; of each change that is left there are at most 64 cells more
pub record IsGoingBack (signals chunks : ℕ) (drivers : List Driver) (from : Noted) (first : List ℕ) (noted : Noted) (flat : List ℕ) (known known_before : ℕ) : Type 0 where
  pub laid : IsLaidOut signals chunks flat
  pub is_of : IsNotedOver signals chunks noted
  pub words : words_back chunks noted.changes (words_from signals chunks flat) ≡ words_back chunks from.changes (words_from signals chunks first)
  pub count : known_by_words drivers chunks (words_from signals chunks first) + known_before ≡ known + known_by_words drivers chunks (words_from signals chunks flat)
  pub few : known + 64 * length noted.changes ≤ 64 * (signals * chunks)
  pub few_before : known_before + 64 * length noted.changes ≤ 64 * (signals * chunks)

-- the words stay laid out
pub laid-written : (signals chunks s chunk z o : ℕ) (flat : List ℕ) → s < signals → chunk < chunks → IsLaidOut signals chunks flat
    → IsLaidOut signals chunks (set (set flat (place_of signals s chunk) z) (place_of signals s chunk + 1) o)
laid-written signals chunks s chunk z o flat h k laid =
    let before : place_of signals s chunk + 1 < 2 * (signals * chunks) = place-within signals chunks s chunk h k in
    record {
      size = length-set (set flat (place_of signals s chunk) z) (place_of signals s chunk + 1) o ∙ length-set flat (place_of signals s chunk) z ∙ laid.size;
      last =
          get_or-set_other (set flat (place_of signals s chunk) z) (place_of signals s chunk + 1) (2 * (signals * chunks)) o 1 (λ e. omega (arith, e, before))
          ∙ get_or-set_other flat (place_of signals s chunk) (2 * (signals * chunks)) z 1 (λ e. omega (arith, e, before)) ∙ laid.last;
      few_signals = laid.few_signals;
      some_chunks = laid.some_chunks;
      few_chunks = laid.few_chunks;
      few_blocks = laid.few_blocks;
    }

module _ (signals chunks : ℕ) (drivers : List Driver) (from : Noted) (first : List ℕ) where
  -- a change that is put back
  module _ (noted now : Noted) (flat new : List ℕ) (known known_before : ℕ) (before : IsGoingBack signals chunks drivers from first noted flat known known_before) (change : Change)
      (sizes : length drivers ≡ signals) (popped : noted.changes ≡ now.changes ++ change ∷ []) (signals_is : now.signals ≡ noted.signals) (chunks_is : now.chunks ≡ noted.chunks)
      (among : IsAmong noted.signals noted.chunks change.at) (place : ℕ) (place_is : place ≡ place_of signals change.at.sig.0 change.at.chunk)
      (new_is : new ≡ set (set flat place change.before.zero) (place + 1) change.before.one) where
    pub among-there : IsAmong signals chunks change.at
    among-there = (subst (λ n. change.at.sig.0 < n) before.is_of.0 among.0, subst (λ n. change.at.chunk < n) before.is_of.1 among.1)

    abbrev words : List PinWord
    words = words_from signals chunks flat

    at-place : set (set flat place change.before.zero) (place + 1) change.before.one ≡ set (set flat (place_of signals change.at.sig.0 change.at.chunk) change.before.zero) (place_of signals change.at.sig.0 change.at.chunk + 1) change.before.one
    at-place = ap (λ n. set (set flat n change.before.zero) (n + 1) change.before.one) place_is

    written : words_from signals chunks new ≡ set words (change.at.sig.0 * chunks + change.at.chunk) change.before
    written =
        ap (words_from signals chunks) (new_is ∙ at-place)
        ∙ words-written signals chunks flat before.laid change.at.sig.0 change.at.chunk among-there.0 among-there.1 change.before.zero change.before.one

    fewer : length noted.changes ≡ length now.changes + 1
    fewer = ap length popped ∙ length_push now.changes change

    step : (more more_before : ℕ) → more ≤ 64 → more_before ≤ 64 → known_by_words drivers chunks (words_from signals chunks new) + more ≡ known_by_words drivers chunks words + more_before
        → IsGoingBack signals chunks drivers from first now new (known + more) (known_before + more_before)
    step more more_before few few_before changes = record {
      laid = subst (IsLaidOut signals chunks) (sym (new_is ∙ at-place)) (laid-written signals chunks change.at.sig.0 change.at.chunk change.before.zero change.before.one flat among-there.0 among-there.1 before.laid);
      is_of = (signals_is ∙ before.is_of.0, chunks_is ∙ before.is_of.1, omega (arith, fewer, before.is_of.2));
      words = ap (words_back chunks now.changes) written ∙ sym (back-push chunks now.changes change words) ∙ sym (ap (λ cs. words_back chunks cs words) popped) ∙ before.words;
      count = omega (arith, before.count, changes);
      few = omega (arith, before.few, fewer, few);
      few_before = omega (arith, before.few_before, fewer, few_before);
    }

    s-in : change.at.sig.0 < length drivers
    s-in = subst (λ n. change.at.sig.0 < n) (sym sizes) among-there.0

    number-in : change.at.sig.0 * chunks + change.at.chunk < length words
    number-in = subst (λ n. change.at.sig.0 * chunks + change.at.chunk < n) (sym (words-size signals chunks flat)) (number-within signals chunks change.at.sig.0 change.at.chunk among-there.0 among-there.1)

    pub back-gate : (b : Bool) → b ≡ is_flip_flop (driver_at drivers change.at.sig.0) → b ≡ false → IsGoingBack signals chunks drivers from first now new known known_before
    back-gate b is other_kind =
        subst (λ n. IsGoingBack signals chunks drivers from first now new n known_before) (none known)
        (subst (λ n. IsGoingBack signals chunks drivers from first now new (known + 0) n) (none known_before)
        (step 0 0 (omega arith) (omega arith)
        (ap (λ n. n + 0) (ap (known_by_words drivers chunks) written
        ∙ known-gate drivers chunks words change.at.sig.0 change.at.chunk change.before s-in among-there.1 number-in (sym is ∙ other_kind)))))
      where
        none : (n : ℕ) → n + 0 ≡ n
        none n = omega arith

    module _ (there : PinWord) (there_is : there ≡ pair_at flat place) (more more_before : ℕ) (more_is : more ≡ known_bits there) (few : more ≤ 64) (before_is : more_before ≡ known_bits change.before) (few_before : more_before ≤ 64) where
      old-is : known_bits (get_or words (change.at.sig.0 * chunks + change.at.chunk) no_words) ≡ more
      old-is =
          ap known_bits (words-by-place signals chunks flat change.at.sig.0 change.at.chunk among-there.0 among-there.1 ∙ sym (ap (pair_at flat) place_is) ∙ sym there_is) ∙ sym more_is

      pub back-flip_flop : (b : Bool) → b ≡ is_flip_flop (driver_at drivers change.at.sig.0) → b ≡ true → IsGoingBack signals chunks drivers from first now new (known + more) (known_before + more_before)
      back-flip_flop b is held =
          step more more_before few few_before
          (ap (λ n. known_by_words drivers chunks (words_from signals chunks new) + n) (sym old-is)
          ∙ ap (λ ws. known_by_words drivers chunks ws + known_bits (get_or words (change.at.sig.0 * chunks + change.at.chunk) no_words)) written
          ∙ known-flip_flop drivers chunks words change.at.sig.0 change.at.chunk change.before s-in among-there.1 number-in (sym is ∙ held)
          ∙ ap (λ n. known_by_words drivers chunks words + n) (sym before_is))

-- planes that go back to their mark
module _ (u : Unrolling) (signals chunks : ℕ) (flat : List ℕ) (option : Option Noted) (noted : Noted) (planes : PlaneSet) (of : IsOf u planes) (marked : IsMarked u planes) (is : option ≡ Some noted)
    (view : over signals chunks (words_from signals chunks flat) (mark_of chunks (words_from signals chunks flat) option) ≡ planes) where
  signals-are : signals ≡ signals_in u
  signals-are = ap (λ (p : PlaneSet). p.signals) view ∙ of.signals

  chunks-are : chunks ≡ chunks_in u
  chunks-are = ap (λ (p : PlaneSet). p.chunks) view ∙ of.chunks

  words-are : (list : List ℕ) → words_from (signals_in u) (chunks_in u) list ≡ words_from signals chunks list
  words-are list = ap (λ n. words_from n (chunks_in u) list) (sym signals-are) ∙ ap (λ n. words_from signals n list) (sym chunks-are)

  words-now : words_from (signals_in u) (chunks_in u) flat ≡ planes.words
  words-now = words-are flat ∙ ap (λ (p : PlaneSet). p.words) view

  words-before : words_back (chunks_in u) noted.changes (words_from (signals_in u) (chunks_in u) flat) ≡ marked.words
  words-before =
      ap (words_back (chunks_in u) noted.changes) (words-are flat) ∙ ap (λ n. words_back n noted.changes (words_from signals chunks flat)) (sym chunks-are)
      ∙ ap (λ (o : Option (List PinWord)). unwrap_or o marked.words) (ap (mark_of chunks (words_from signals chunks flat)) (sym is) ∙ ap (λ (p : PlaneSet). p.mark) view ∙ marked.mark)

  known-now : known_by_words u.circuit.drivers (chunks_in u) (words_from (signals_in u) (chunks_in u) flat) ≡ known_count u.circuit u.cycles (has u planes)
  known-now = ap (known_by_words u.circuit.drivers (chunks_in u)) words-now ∙ ap (λ n. known_by_words u.circuit.drivers n planes.words) (sym of.chunks) ∙ known-words u planes of

  known-before : known_by_words u.circuit.drivers (chunks_in u) marked.words ≡ known_count u.circuit u.cycles (has u (back_at planes marked.words))
  known-before = ap (λ n. known_by_words u.circuit.drivers n marked.words) (sym of.chunks) ∙ known-words u (back_at planes marked.words) marked.of

  pub back-less : known_by_words u.circuit.drivers (chunks_in u) (words_back (chunks_in u) noted.changes (words_from (signals_in u) (chunks_in u) flat))
      ≤ known_by_words u.circuit.drivers (chunks_in u) (words_from (signals_in u) (chunks_in u) flat)
  back-less = omega (arith, known-now, known-before, ap (known_by_words u.circuit.drivers (chunks_in u)) words-before, known-within u (back_at planes marked.words) planes marked.within)

  module _ (new : List ℕ) (result : ℕ) (new_is : words_from (signals_in u) (chunks_in u) new ≡ words_back (chunks_in u) noted.changes (words_from (signals_in u) (chunks_in u) flat))
      (count : known_by_words u.circuit.drivers (chunks_in u) (words_from (signals_in u) (chunks_in u) flat) ≡ result + known_by_words u.circuit.drivers (chunks_in u) (words_from (signals_in u) (chunks_in u) new)) where
    pub back-count : (now : Option Noted) → known_count u.circuit u.cycles (has u planes) ≡ result + known_count u.circuit u.cycles (has u (over signals chunks (words_from signals chunks new) (mark_of chunks (words_from signals chunks new) now)))
    back-count now =
        sym known-now ∙ count ∙ ap (λ ws. result + known_by_words u.circuit.drivers (chunks_in u) ws) (new_is ∙ words-before) ∙ ap (λ n. result + n) known-before
        ∙ ap (λ ws. result + known_count u.circuit u.cycles (has u (over signals chunks ws (mark_of chunks ws now)))) (sym (sym (words-are new) ∙ new_is ∙ words-before))
