-- The printed text, row by row.
use Rattle.std.proofs.Common.{◌≡◌, ℕ, ◌+◌, ◌<◌, Bool, List, [], ◌∷◌, ◌++◌, length, get_or, take, map, codes, Option, Some, refl, sym, ap, ◌∙◌}
use Rattle.std.specs.Prelude.{option_map}
use Rattle.std.specs.List.{flat_map, slice_get}
use Rattle.std.specs.Fmt.{decimal}
use Rattle.std.proofs.lemmas.List.{append-nil, map-append, take_more}
use Rattle.std.proofs.lemmas.List.Concat.{flat_map-append}
use Rattle.std.proofs.lemmas.Option.{same_Some, slice_get-get_or, get_or_from_slice_get}
use Rattle.sr_model.specs.declared.cells.Sig.{Sig}
use Rattle.sr_model.specs.Dump.{Row}
use Rattle.dump_reader.specs.declared.dump.Tri.{Tri}
use Rattle.dump_reader.specs.Recording.{Recording, tri_bit}
use Rattle.sr_text.specs.Lines.{with_line_feed}
use Rattle.dump_reader.specs.Print.{bit_character, row_text, printed_lines, printed}

abbrev pub first_rows : Recording → ℕ → Recording
first_rows r n = record { cycles = r.cycles; rows = take n r.rows }

printed_push : (names : List (List ℕ)) (cycles : ℕ) (rows : List Row) (row : Row) → printed names (record { cycles = cycles; rows = rows ++ row ∷ [] }) ≡ printed names (record { cycles = cycles; rows = rows }) ++ with_line_feed (row_text names row)
printed_push names cycles rows row =
    let front : List (List ℕ) = printed_lines names (record { cycles = cycles; rows = rows }) in
    let lines : printed_lines names (record { cycles = cycles; rows = rows ++ row ∷ [] }) ≡ front ++ row_text names row ∷ [] =
    ap (λ (ls : List (List ℕ)). codes "srdump 1" ∷ (codes "cycles " ++ decimal cycles) ∷ ls) (map-append (row_text names) rows (row ∷ [])) in
    ap (flat_map with_line_feed) lines ∙ flat_map-append with_line_feed front (row_text names row ∷ []) ∙ ap (λ (t : List ℕ). flat_map with_line_feed front ++ t) (append-nil (with_line_feed (row_text names row)))

-- what is pushed for a row, of this name and these cells
abbrev pub pushed_row : List ℕ → List Tri → List ℕ
pushed_row name cells = name ++ 32 ∷ [] ++ map (λ cell. bit_character (tri_bit cell)) cells ++ 10 ∷ []

map_twice : (cells : List Tri) → map (λ cell. bit_character (tri_bit cell)) cells ≡ map bit_character (map tri_bit cells)
map_twice [] = refl
map_twice (cell ∷ cells) = ap (λ (t : List ℕ). bit_character (tri_bit cell) ∷ t) (map_twice cells)

pub sig_at : (rows : List Row) (i : ℕ) (d : Row) (sig : Sig) → i < length rows → option_map (λ (row : Row). row.sig) (slice_get rows i) ≡ Some sig → (get_or rows i d).sig ≡ sig
sig_at rows i d sig lt e = same_Some (get_or rows i d).sig sig (sym (ap (λ (o : Option Row). option_map (λ (row : Row). row.sig) o) (slice_get-get_or rows i d lt)) ∙ e)

pub bits_at : (rows : List Row) (i : ℕ) (d : Row) (bits : List (Option Bool)) → i < length rows → option_map (λ (row : Row). row.bits) (slice_get rows i) ≡ Some bits → (get_or rows i d).bits ≡ bits
bits_at rows i d bits lt e = same_Some (get_or rows i d).bits bits (sym (ap (λ (o : Option Row). option_map (λ (row : Row). row.bits) o) (slice_get-get_or rows i d lt)) ∙ e)

no_row : Row
no_row = record { sig = record { 0 = 0 }; bits = [] }

pub printed_more : (names : List (List ℕ)) (r : Recording) (i : ℕ) (old new name : List ℕ) (sig : Sig) (cells : List Tri) → i < length r.rows → old ≡ printed names (first_rows r i)
    → option_map (λ (row : Row). row.sig) (slice_get r.rows i) ≡ Some sig → option_map (λ (row : Row). row.bits) (slice_get r.rows i) ≡ Some (map tri_bit cells) → slice_get names sig.0 ≡ Some name
    → new ≡ old ++ pushed_row name cells → new ≡ printed names (first_rows r (i + 1))
printed_more names r i old new name sig cells lt is is_sig is_bits is_name grown =
    let row : Row = get_or r.rows i no_row in
    let same_name : name ≡ get_or names row.sig.0 [] =
    sym (get_or_from_slice_get names sig.0 name [] is_name) ∙ ap (λ (s : Sig). get_or names s.0 []) (sym (sig_at r.rows i no_row sig lt is_sig)) in
    let characters : map (λ cell. bit_character (tri_bit cell)) cells ≡ map bit_character row.bits = map_twice cells ∙ ap (map bit_character) (sym (bits_at r.rows i no_row (map tri_bit cells) lt is_bits)) in
    let line : pushed_row name cells ≡ with_line_feed (row_text names row) =
    ap (λ (n : List ℕ). n ++ 32 ∷ [] ++ map (λ cell. bit_character (tri_bit cell)) cells ++ 10 ∷ []) same_name
    ∙ ap (λ (cs : List ℕ). get_or names row.sig.0 [] ++ 32 ∷ [] ++ cs ++ 10 ∷ []) characters in
    grown ∙ ap (λ (t : List ℕ). t ++ pushed_row name cells) is ∙ ap (λ (t : List ℕ). printed names (first_rows r i) ++ t) line ∙ sym (printed_push names r.cycles (take i r.rows) row)
    ∙ ap (λ (rows : List Row). printed names (record { cycles = r.cycles; rows = rows })) (sym (take_more r.rows i no_row lt))
