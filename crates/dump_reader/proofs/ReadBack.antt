-- The printed text of a dump reads as that dump.
use Rattle.std.proofs.Common.{◌≡◌, ◌≢◌, ℕ, ◌+◌, ◌-◌, ◌%◌, ◌<◌, ◌^◌, Bool, true, false, not, ◌&&◌, ◌||◌, eqb, ltb, List, [], ◌∷◌, ◌++◌, length, get_or, map, codes, Option, Some, None, refl, sym, ap, subst, ◌∙◌, append_assoc, arith}
use Rattle.std.specs.Prelude.{IsTrue}
use Rattle.std.specs.List.{All, list_all, prefix_len}
use Rattle.std.specs.Fmt.{decimal}
use Rattle.std.proofs.lemmas.Bool.{and_parts, ltb-true, eq-eqb, not-true, false≢true}
use Rattle.std.proofs.lemmas.Fmt.{decimal_by_steps}
use Rattle.std.proofs.lemmas.List.{length-append, length-map, get_or-append_right}
use Rattle.std.proofs.lemmas.List.Elements.{All-nil, All-cons, All-head, All-tail, All-append, All-push, All-map}
use Rattle.std.proofs.lemmas.List.Sums.{AllPass-from_list_all}
use Rattle.std.proofs.lemmas.Option.{slice_get-get_or}
use Rattle.sr_text.specs.Text.{is_blank}
use Rattle.sr_text.proofs.lemmas.PrintedLines.{stops, not_blank, IsPrinted, ArePrinted, from_number, numbered_printed}
use Rattle.sr_text.specs.Name.{is_name_byte, is_name}
use Rattle.sr_model.specs.Dump.{Row}
use Rattle.netlist.specs.Circuit.{Circuit, IsCircuit}
use Rattle.dump_reader.specs.Recording.{IsCount}
use Rattle.dump_reader.specs.Tokens.{HasTwoTokens}
use Rattle.dump_reader.specs.Grammar.{StatesRow, bit_read}
use Rattle.dump_reader.specs.Print.{bit_character, row_text, printed_lines}
use Rattle.dump_reader.specs.Laws.{IsReadBack}
use Rattle.dump_reader.proofs.Tokens.{some_bytes, not_nil}
use Rattle.dump_reader.proofs.SameRows.{State}

-- ---- words

-- a byte of a printed word: no blank, no line feed and no #
abbrev IsPlain : ℕ → Type 0
IsPlain b = (32 < b) × (b ≢ 35)

abbrev IsWord : List ℕ → Type 0
IsWord text = (text ≢ []) × All IsPlain text

no_blank : (text : List ℕ) → All IsPlain text → All (λ b. is_blank b ≡ false) text
no_blank text all k d lt = not_blank (get_or text k d) (all k d lt).0

digit_word : (n : ℕ) → n < 10 → IsPlain (48 + n)
digit_word n lt = (omega arith, λ e. omega (arith, e))

decimal_word : (n : ℕ) → n < 2 ^ 64 → IsWord (decimal n)
decimal_word n small =
    decimal_by_steps (λ m ds. IsWord ds) (λ m lt. (λ e. cc, All-cons IsPlain (48 + m) [] (digit_word m lt) (All-nil IsPlain)))
    (λ m ds ge word. (not_nil (ds ++ (48 + m % 10) ∷ []) (omega (arith, length-append ds ((48 + m % 10) ∷ []))), All-push IsPlain ds (48 + m % 10) word.1 (digit_word (m % 10) (omega arith)))) n small

name_byte_plain : (b : ℕ) → is_name_byte b ≡ true → IsPlain b
name_byte_plain b h =
    let parts = and_parts (ltb 32 b && ltb b 127) (not (eqb b 40 || eqb b 41 || eqb b 44 || eqb b 61 || eqb b 35)) h in
    (ltb-true 32 b (and_parts (ltb 32 b) (ltb b 127) parts.0).0, λ e. false≢true (subst (λ n. is_name_byte n ≡ true) e h))

name_word : (name : List ℕ) → IsTrue (is_name name) → IsWord name
name_word name h =
    let parts = and_parts (not (eqb (length name) 0)) (list_all is_name_byte name) h in
    let bytes = AllPass-from_list_all is_name_byte name parts.1 in
    (λ e. false≢true (sym (not-true (eqb (length name) 0) parts.0) ∙ eq-eqb (length name) 0 (ap (λ (t : List ℕ). length t) e)), λ k d lt. name_byte_plain (get_or name k d) (bytes k d lt))

character_plain : (bit : Option Bool) → IsPlain (bit_character bit)
character_plain (Some false) = (omega arith, λ e. omega (arith, e))
character_plain (Some true) = (omega arith, λ e. omega (arith, e))
character_plain None = (omega arith, λ e. omega (arith, e))

characters_plain : (bits : List (Option Bool)) → All IsPlain (map bit_character bits)
characters_plain [] = All-nil IsPlain
characters_plain (bit ∷ bits) = All-cons IsPlain (bit_character bit) (map bit_character bits) (character_plain bit) (characters_plain bits)

-- ---- a printed line

abbrev spaced : List ℕ → List ℕ → List ℕ
spaced first second = first ++ 32 ∷ [] ++ second

spaced_tokens : (first second : List ℕ) → IsWord first → IsWord second → HasTwoTokens (spaced first second) first second
spaced_tokens first second h k = record {
  gap = 32 ∷ [];
  whole = refl;
  is_first = (h.0, no_blank first h.1);
  is_gap = (λ e. cc, All-cons (λ b. IsTrue (is_blank b)) 32 [] refl (All-nil (λ b. IsTrue (is_blank b))));
  is_second = (k.0, no_blank second k.1);
}

spaced_printed : (first second : List ℕ) → IsWord first → IsWord second → IsPrinted (spaced first second)
spaced_printed first second h k =
    let front : List ℕ = first ++ 32 ∷ [] in
    let some_first : 0 < length first = some_bytes first h.0 in
    let some_second : 0 < length second = some_bytes second k.0 in
    let len : length (front ++ second) ≡ length front + length second = length-append front second in
    let widen : (text : List ℕ) → All IsPlain text → All (λ b. (31 < b) × (b ≢ 35)) text = λ text all j d lt. (omega (arith, (all j d lt).0), (all j d lt).1) in
    let last : get_or (front ++ second) (length (front ++ second) - 1) 0 ≡ get_or second (length (front ++ second) - 1 - length front) 0 =
    get_or-append_right front second (length front) (length (front ++ second) - 1) 0 refl (omega (arith, len, some_second)) in
    record {
      some = omega (arith, len, some_second);
      bytes =
          All-append (λ b. (31 < b) × (b ≢ 35)) front second
          (All-append (λ b. (31 < b) × (b ≢ 35)) first (32 ∷ []) (widen first h.1) (All-cons (λ b. (31 < b) × (b ≢ 35)) 32 [] (omega arith, λ e. omega (arith, e)) (All-nil (λ b. (31 < b) × (b ≢ 35)))))
          (widen second k.1);
      begins = ap (prefix_len is_blank) (append_assoc first (32 ∷ []) second) ∙ stops is_blank first (32 ∷ [] ++ second) h.0 (no_blank first h.1);
      ends = subst (λ b. 32 < b) (sym last) (k.1 (length (front ++ second) - 1 - length front) 0 (omega (arith, len, some_second))).0;
    }

-- ---- the rows

bits_read : (bits : List (Option Bool)) → map bit_read (map bit_character bits) ≡ map (λ (x : Option Bool). Some x) bits
bits_read [] = refl
bits_read (Some false ∷ bits) = ap (λ (xs : List (Option (Option Bool))). Some (Some false) ∷ xs) (bits_read bits)
bits_read (Some true ∷ bits) = ap (λ (xs : List (Option (Option Bool))). Some (Some true) ∷ xs) (bits_read bits)
bits_read (None ∷ bits) = ap (λ (xs : List (Option (Option Bool))). Some None ∷ xs) (bits_read bits)

-- a row of a circuit, with a bit or none for each cycle
abbrev IsRowOf : Circuit → ℕ → Row → Type 0
IsRowOf c cycles row = (length row.bits ≡ cycles) × (row.sig.0 < length c.drivers)

row_name : (c : Circuit) (cycles : ℕ) (row : Row) → IsCircuit c → IsRowOf c cycles row → IsWord (get_or c.names row.sig.0 [])
row_name c cycles row circuit is = name_word (get_or c.names row.sig.0 []) (circuit.are_names row.sig.0 [] (omega (arith, is.1, circuit.one_name_each))).0

row_characters : (c : Circuit) (cycles : ℕ) (row : Row) → IsCount cycles → IsRowOf c cycles row → IsWord (map bit_character row.bits)
row_characters c cycles row count is = (not_nil (map bit_character row.bits) (omega (arith, length-map row.bits bit_character, is.0, count.0)), characters_plain row.bits)

row_states : (c : Circuit) (cycles : ℕ) (row : Row) → IsCircuit c → IsCount cycles → IsRowOf c cycles row → StatesRow c.names cycles (row_text c.names row) row
row_states c cycles row circuit count is = record {
  characters = map bit_character row.bits;
  names_signal = record {
    name = get_or c.names row.sig.0 [];
    tokens = spaced_tokens (get_or c.names row.sig.0 []) (map bit_character row.bits) (row_name c cycles row circuit is) (row_characters c cycles row count is);
    is_name = slice_get-get_or c.names row.sig.0 [] (omega (arith, is.1, circuit.one_name_each));
  };
  full = length-map row.bits bit_character ∙ is.0;
  bits = bits_read row.bits;
}

rows_printed : (c : Circuit) (cycles : ℕ) (rows : List Row) → IsCircuit c → IsCount cycles → All (IsRowOf c cycles) rows → ArePrinted (map (row_text c.names) rows)
rows_printed c cycles rows circuit count all =
    All-map IsPrinted (row_text c.names) rows (λ k d lt.
    spaced_printed (get_or c.names (get_or rows k d).sig.0 []) (map bit_character (get_or rows k d).bits) (row_name c cycles (get_or rows k d) circuit (all k d lt)) (row_characters c cycles (get_or rows k d) count (all k d lt)))

rows_stated : (c : Circuit) (cycles n : ℕ) (rows : List Row) → IsCircuit c → IsCount cycles → All (IsRowOf c cycles) rows → State c.names cycles (from_number n (map (row_text c.names) rows)) rows
rows_stated c cycles n [] circuit count all = tt
rows_stated c cycles n (row ∷ rows) circuit count all =
    (row_states c cycles row circuit count (All-head (IsRowOf c cycles) row rows all), rows_stated c cycles (n + 1) rows circuit count (All-tail (IsRowOf c cycles) row rows all))

-- ---- the law

-- the words of the first two lines
plain_text : (text : List ℕ) → IsTrue (list_all (λ b. ltb 32 b && not (eqb b 35)) text) → All IsPlain text
plain_text text h k d lt =
    let b : ℕ = get_or text k d in
    let parts = and_parts (ltb 32 b) (not (eqb b 35)) (AllPass-from_list_all (λ b. ltb 32 b && not (eqb b 35)) text h k d lt) in
    (ltb-true 32 b parts.0, λ e. false≢true (sym (not-true (eqb b 35) parts.1) ∙ eq-eqb b 35 e))

head_word : IsWord (codes "srdump") × IsWord (codes "1")
head_word = ((λ e. cc, plain_text (codes "srdump") refl), (λ e. cc, plain_text (codes "1") refl))

cycles_word : IsWord (codes "cycles")
cycles_word = (λ e. cc, plain_text (codes "cycles") refl)

pub read_back : IsReadBack
read_back c r circuit is within few =
    let small : r.cycles < 2 ^ 64 = omega (arith, is.count.1) in
    let digits : IsWord (decimal r.cycles) = decimal_word r.cycles small in
    let each : All (IsRowOf c r.cycles) r.rows = λ k d lt. (is.full k d lt, within k d lt) in
    let rows : List (List ℕ) = map (row_text c.names) r.rows in
    let cycles_line : List ℕ = codes "cycles " ++ decimal r.cycles in
    let are : ArePrinted (printed_lines c.names r) =
    All-cons IsPrinted (codes "srdump 1") (cycles_line ∷ rows) (spaced_printed (codes "srdump") (codes "1") head_word.0 head_word.1)
    (All-cons IsPrinted cycles_line rows (spaced_printed (codes "cycles") (decimal r.cycles) cycles_word digits) (rows_printed c r.cycles r.rows circuit is.count each)) in
    record {
      lines = from_number 3 rows;
      front = record {
        number = 2;
        front = record {
          head = (1, codes "srdump 1");
          cycles_line = cycles_line;
          whole = numbered_printed (printed_lines c.names r) are;
          is_head = spaced_tokens (codes "srdump") (codes "1") head_word.0 head_word.1;
          is_cycles_line = (is.count, spaced_tokens (codes "cycles") (decimal r.cycles) cycles_word digits);
        };
        few = few;
      };
      rows = record { each = rows_stated c r.cycles 3 r.rows circuit is.count each; once = is.once };
    }
