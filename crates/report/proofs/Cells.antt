-- On the characters of a row.
use Rattle.std.proofs.Common.{ℕ, zero, suc, ◌+◌, ◌*◌, ◌/◌, ◌%◌, ◌<◌, ◌≤◌, ◌≡◌, ◌&&◌, Bool, true, false, List, [], ◌∷◌, ◌++◌, length, map, set, take, Some, None, sym, ap, ◌∙◌, arith, append_assoc}
use Rattle.std.specs.Prelude.{if◌then◌else◌, ◌-◌, min, codes, slice_index_or, slice_get}
use Rattle.std.specs.List.{range_with_len}
use Rattle.std.proofs.lemmas.Bool.{lt-ltb}
use Rattle.std.proofs.lemmas.List.{append-nil}
use Rattle.std.proofs.lemmas.Grind.{take-set_at}
use Rattle.std.proofs.lemmas.Simd.{map-map}
use Rattle.std.proofs.lemmas.Option.{get_or_from_slice_get}
use Rattle.std.proofs.lemmas.List.FromFn.{length-map-range_with_len, map-range_with_len_more, take-map-range_with_len}
use Rattle.sr_model.specs.declared.cells.Sig.{Sig}
use Rattle.sr_model.specs.Netlist.{cell_at}
use Rattle.sr_model.specs.Closure.{lit}
use Rattle.dump_reader.specs.Print.{bit_character}
use Rattle.netlist.specs.Circuit.{Circuit}
use Rattle.sr_model.specs.declared.cells.Lit.{Lit}
use Rattle.unroll.specs.declared.words.PinWord.{PinWord}
use Rattle.unroll.specs.Bits.{is_set, word_for}
use Rattle.unroll.specs.Problem.{Unrolling, block_at, chunks_in}
use Rattle.known_planes.specs.Planes.{PlaneSet, words_at, has}
use Rattle.report.specs.Rows.{cells_text, row_line, word_bit, word_text}
use Rattle.report.specs.Table.{known_bit}

-- a bit of a chunk's words is what the planes have of its cell
bit-known : (u : Unrolling) (planes : PlaneSet) (s : Sig) (chunk i : ℕ) (words : PinWord) → i < 64 → 64 * chunk + i < u.cycles → words ≡ words_at planes (block_at u s chunk)
    → word_bit words i ≡ known_bit (has u planes) (64 * chunk + i) s
bit-known u planes s chunk i words few early is =
    ap (λ b. if b then Some false else (if is_set words.one i then Some true else None)) (sym (has-at false))
    ∙ ap (λ b. if has u planes (lit (cell_at (64 * chunk + i) s) false) then Some false else (if b then Some true else None)) (sym (has-at true))
  where
    in_chunk : (64 * chunk + i) / 64 ≡ chunk
    in_chunk = omega (arith, few)

    in_word : (64 * chunk + i) % 64 ≡ i
    in_word = omega (arith, few)

    has-at : (bit : Bool) → has u planes (lit (cell_at (64 * chunk + i) s) bit) ≡ is_set (word_for bit words) i
    has-at bit =
        ap (λ t. t && is_set (word_for bit (words_at planes (block_at u s ((64 * chunk + i) / 64)))) ((64 * chunk + i) % 64)) (lt-ltb (64 * chunk + i) u.cycles early)
        ∙ ap (λ n. is_set (word_for bit (words_at planes (block_at u s n))) ((64 * chunk + i) % 64)) in_chunk
        ∙ ap (λ n. is_set (word_for bit (words_at planes (block_at u s chunk))) n) in_word
        ∙ ap (λ w. is_set (word_for bit w) i) (sym is)

-- so many characters, and those of a chunk behind them
cells_then : (f g : ℕ → ℕ) (a n : ℕ) → ((i : ℕ) → i < n → f (a + i) ≡ g i) → map f (range_with_len 0 (a + n)) ≡ map f (range_with_len 0 a) ++ map g (range_with_len 0 n)
cells_then f g a zero h = ap (λ k. map f (range_with_len 0 k)) (omega arith) ∙ sym (append-nil (map f (range_with_len 0 a)))
cells_then f g a (suc n) h =
    ap (λ k. map f (range_with_len 0 k)) more ∙ map-range_with_len_more f 0 (a + n) (a + n) (omega arith)
    ∙ ap (λ xs. xs ++ f (a + n) ∷ []) (cells_then f g a n (λ i lt. h i (omega (arith, lt))))
    ∙ append_assoc (map f (range_with_len 0 a)) (map g (range_with_len 0 n)) (f (a + n) ∷ [])
    ∙ ap (λ x. map f (range_with_len 0 a) ++ (map g (range_with_len 0 n) ++ x ∷ [])) (h n (omega arith))
    ∙ ap (λ xs. map f (range_with_len 0 a) ++ xs) (sym (map-range_with_len_more g 0 n n (omega arith)) ∙ ap (λ k. map g (range_with_len 0 k)) last)
  where
    more : a + suc n ≡ a + n + 1
    more = omega arith

    last : n + 1 ≡ suc n
    last = omega arith

-- a chunk more
pub more_cells : (u : Unrolling) (planes : PlaneSet) (s : Sig) (chunk n : ℕ) (words : PinWord) → words ≡ words_at planes (block_at u s chunk) → n ≤ 64 → 64 * chunk + n ≤ u.cycles
    → cells_text (has u planes) s (64 * chunk + n) ≡ cells_text (has u planes) s (64 * chunk) ++ word_text words n
more_cells u planes s chunk n words is few within =
    cells_then (λ t. bit_character (known_bit (has u planes) t s)) (λ i. bit_character (word_bit words i)) (64 * chunk) n (λ i lt.
    ap bit_character (sym (bit-known u planes s chunk i words (omega (arith, lt, few)) (omega (arith, lt, within)) is)))

-- a character more of a chunk
pub more_characters : (words : PinWord) (i character : ℕ) (characters : List ℕ) → i < length characters → character ≡ bit_character (word_bit words i) → take i characters ≡ word_text words i
    → take (i + 1) (set characters i character) ≡ word_text words (i + 1)
more_characters words i character characters within is before =
    take-set_at characters i (i + 1) character (omega arith) within ∙ ap (λ xs. xs ++ character ∷ []) before ∙ ap (λ x. word_text words i ++ x ∷ []) is
    ∙ sym (map-range_with_len_more (λ n. bit_character (word_bit words n)) 0 i i (omega arith))

-- the first ones
pub first_characters : (words : PinWord) (n : ℕ) (characters : List ℕ) → n ≤ 64 → characters ≡ word_text words 64 → take n characters ≡ word_text words n
first_characters words n characters few is = ap (take n) is ∙ take-map-range_with_len (λ i. bit_character (word_bit words i)) 0 64 n few

-- a chunk more of a row
pub more_chunks : (u : Unrolling) (planes : PlaneSet) (s : Sig) (chunk n start : ℕ) (words : PinWord) (old mid new : List ℕ) → words ≡ words_at planes (block_at u s chunk) → chunk < chunks_in u
    → n ≡ min (u.cycles - 64 * chunk) 64 → take (start + 64 * chunk + n) new ≡ take (start + 64 * chunk) mid ++ word_text words n
    → take (start + min (64 * chunk) u.cycles) mid ≡ take start old ++ cells_text (has u planes) s (min (64 * chunk) u.cycles)
    → take (start + min (64 * (chunk + 1)) u.cycles) new ≡ take start old ++ cells_text (has u planes) s (min (64 * (chunk + 1)) u.cycles)
more_chunks u planes s chunk n start words old mid new is early count step before =
    let here : min (64 * chunk) u.cycles ≡ 64 * chunk = omega (arith, early) in
    let there : min (64 * (chunk + 1)) u.cycles ≡ 64 * chunk + n = omega (arith, early, count) in
    let place : start + (64 * chunk + n) ≡ start + 64 * chunk + n = omega arith in
    ap (λ k. take (start + k) new) there ∙ ap (λ k. take k new) place ∙ step
    ∙ ap (λ xs. xs ++ word_text words n) (ap (λ k. take (start + k) mid) (sym here) ∙ before ∙ ap (λ k. take start old ++ cells_text (has u planes) s k) here)
    ∙ append_assoc (take start old) (cells_text (has u planes) s (64 * chunk)) (word_text words n)
    ∙ ap (λ xs. take start old ++ xs) (sym (more_cells u planes s chunk n words is (omega (arith, count)) (omega (arith, early, count))))
    ∙ ap (λ k. take start old ++ cells_text (has u planes) s k) (sym there)

-- a name, a space, the characters and a line feed are a row
pub row_made : (c : Circuit) (cycles : ℕ) (known : Lit → Bool) (s : Sig) (name : List ℕ) → slice_get c.names s.0 ≡ Some name
    → name ++ codes " " ++ cells_text known s cycles ++ 10 ∷ [] ≡ row_line c cycles known s
row_made c cycles known s name is =
    ap (λ bytes. bytes ++ codes " " ++ cells_text known s cycles ++ 10 ∷ []) (sym (get_or_from_slice_get c.names s.0 name [] is))
    ∙ ap (λ cells. slice_index_or c.names s.0 [] ++ codes " " ++ cells ++ 10 ∷ []) (sym (map-map bit_character (λ t. known_bit known t s) (range_with_len 0 cycles)))

pub long_as : (words : PinWord) (n : ℕ) → length (word_text words n) ≡ n
long_as words n = length-map-range_with_len (λ i. bit_character (word_bit words i)) 0 n
