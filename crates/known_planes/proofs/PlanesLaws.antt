-- The laws of planes.
use Rattle.std.proofs.Common.{Bool, true, false, ◌≡◌, ◌/◌, ◌*◌, ◌≤◌, ◌<◌, ◌&&◌, arith, inl, inr, ap, sym, subst, ◌∙◌}
use Rattle.std.proofs.lemmas.Bool.{and_parts, cases_lt, lt-ltb, ltb-true, true≢false}
use Rattle.std.proofs.Math.ListN.{get_or-eq_default}
use Rattle.std.proofs.Math.Nat.{mul-le-mul_right}
use Rattle.std.specs.Prelude.{nat_lt}
use Rattle.unroll.specs.declared.words.PinWord.{PinWord}
use Rattle.unroll.specs.Bits.{is_set, word_for, no_words}
use Rattle.unroll.specs.Problem.{signals_in, chunks_in, blocks_in, block_of, sig_at, chunk_at, bit_of}
use Rattle.unroll.proofs.lemmas.Laws.{block-itself, block-within, chunk-within, cycle-chunk, sig-within}
use Rattle.unroll.proofs.lemmas.Tasks.{some_chunk}
use Rattle.unroll.proofs.lemmas.Words.{is_set_zero}
use Rattle.known_planes.specs.Planes.{words_at, with_words}
use Rattle.known_planes.specs.Laws.{BitsAreLiterals, LiteralsAreOfCells, NewWordsAreLiterals, OtherLiteralsStay}
use Rattle.known_planes.proofs.Members.{in-block, words-there, words-elsewhere}
use Rattle.known_planes.proofs.SignalCounts.{bit-has}

pub bits_are_literals : BitsAreLiterals
bits_are_literals u planes b bit i is of within few =
    ap (λ (w : PinWord). is_set (word_for bit w) i) (sym (in-block u planes of (sig_at u b).0 (chunk_at u b) ∙ ap (words_at planes) (block-itself u b)))
    ∙ bit-has u planes of (sig_at u b) (sig-within u b (some_chunk u is) within) bit (chunk_at u b) i (chunk-within u b (some_chunk u is)) few

pub literals_are_of_cells : LiteralsAreOfCells
literals_are_of_cells u planes l of known = (signal, ltb-true l.cell.cycle u.cycles parts.0)
  where
    parts : (nat_lt l.cell.cycle u.cycles ≡ true) × (is_set (word_for l.bit (words_at planes (block_of u l.cell))) (bit_of l.cell) ≡ true)
    parts = and_parts (nat_lt l.cell.cycle u.cycles) (is_set (word_for l.bit (words_at planes (block_of u l.cell))) (bit_of l.cell)) known

    none : (bit : Bool) → is_set (word_for bit no_words) (bit_of l.cell) ≡ false
    none true = is_set_zero (bit_of l.cell)
    none false = is_set_zero (bit_of l.cell)

    signal : l.cell.sig.0 < signals_in u
    signal =
        elim (cases_lt l.cell.sig.0 (signals_in u)) [
          | inl h ↦ h
          | inr past ↦
              let further : signals_in u * chunks_in u ≤ l.cell.sig.0 * chunks_in u = mul-le-mul_right (chunks_in u) past in
              let empty : words_at planes (block_of u l.cell) ≡ no_words = get_or-eq_default planes.words no_words (subst (λ n. n ≤ (block_of u l.cell).0) (sym of.blocks) (omega (arith, further))) in
              absurd (true≢false (sym parts.1 ∙ ap (λ (w : PinWord). is_set (word_for l.bit w) (bit_of l.cell)) empty ∙ none l.bit))
        ]

pub new_words_are_literals : NewWordsAreLiterals
new_words_are_literals u planes w l of signal cycle =
    let within : (block_of u l.cell).0 < blocks_in u = block-within u l.cell.sig (l.cell.cycle / 64) (cycle-chunk u l.cell.cycle cycle) signal in
    ap (λ t. t && is_set (word_for l.bit (words_at (with_words planes (block_of u l.cell) w) (block_of u l.cell))) (bit_of l.cell)) (lt-ltb l.cell.cycle u.cycles cycle)
    ∙ ap (λ (x : PinWord). is_set (word_for l.bit x) (bit_of l.cell)) (words-there planes (block_of u l.cell) w (subst (λ n. (block_of u l.cell).0 < n) (sym of.blocks) within))

pub other_literals_stay : OtherLiteralsStay
other_literals_stay u planes b w l other =
    ap (λ (x : PinWord). nat_lt l.cell.cycle u.cycles && is_set (word_for l.bit x) (bit_of l.cell))
    (words-elsewhere planes b (block_of u l.cell) w (λ e. other (ap (λ n. record { 0 = n }) e)))
