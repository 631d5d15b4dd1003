-- A comment line behind the last line feed of a dump says nothing, and a table is a dump with such a line.
use Rattle.std.proofs.Common.{◌≡◌, ◌≢◌, ℕ, zero, suc, ◌+◌, ◌-◌, ◌/◌, ◌%◌, ◌<◌, Bool, true, false, ◌&&◌, cond, eqb, ltb, List, [], ◌∷◌, ◌++◌, length, get_or, take, map, codes, Option, Some, None, refl, sym, ap, subst, ◌∙◌, inl, inr, arith}
use Rattle.std.specs.List.{All, AllPairs, flat_map, list_all}
use Rattle.std.specs.Fmt.{decimal, digits, digits_onto, digit_glyph}
use Rattle.std.proofs.lemmas.Bool.{ltb-true}
use Rattle.std.proofs.lemmas.List.{append-nil, length-append, map-append, get_or_at, get_or-append_right, get_or_append_left}
use Rattle.std.proofs.Math.Seq.{take-nil}
use Rattle.std.proofs.lemmas.List.Elements.{All-nil, All-cons, All-append, All-filter, All-map}
use Rattle.std.proofs.lemmas.List.FromFn.{get_or-map-range_with_len, length-map-range_with_len}
use Rattle.std.proofs.lemmas.List.Kept.{AllPairs-filter}
use Rattle.std.proofs.lemmas.List.Sums.{AllPass-from_list_all}
use Rattle.bstr.specs.Text.{lines_of, without_terminator, no_cr}
use Rattle.bstr.proofs.lemmas.LineLemmas.{EndsLine, lines-append, lines-one}
use Rattle.sr_text.specs.Text.{cut_line}
use Rattle.sr_text.specs.Numbers.{last_digit, thousandths}
use Rattle.sr_model.specs.declared.cells.Sig.{Sig}
use Rattle.sr_model.specs.declared.cells.Lit.{Lit}
use Rattle.sr_model.specs.Dump.{Row}
use Rattle.netlist.specs.Circuit.{Circuit}
use Rattle.netlist.specs.Wiring.{driver_at, is_flip_flop, signals_below}
use Rattle.netlist.proofs.lemmas.Signals.{signals_within}
use Rattle.dump_reader.specs.Recording.{Recording, IsCount, IsRecording, recorded}
use Rattle.dump_reader.specs.Grammar.{Spells}
use Rattle.sr_text.specs.Lines.{text_lines, numbered_from, numbered, with_line_feed}
use Rattle.dump_reader.specs.Print.{printed, printed_lines}
use Rattle.dump_reader.proofs.lemmas.Laws.{read_back}
use Rattle.ratio.specs.Ratio.{in_thousandths}
use Rattle.known_planes.specs.Counts.{known_count}
use Rattle.report.specs.Table.{known_bit, known_row, known_rows, ratio_text, shown}
use Rattle.report.specs.Laws.{ShowsEachOnce, ShowsSignals, TableIsDump}

-- ---- a comment line

-- lines with their numbers
abbrev Lines : Type 0
Lines = List (ℕ × List ℕ)

-- what begins with # is nothing once it is cut, however much of it is left
cut_comment : (k : ℕ) (rest : List ℕ) → cut_line (take k (35 ∷ rest)) ≡ []
unfolding cut_line
cut_comment zero rest = refl
cut_comment (suc k) rest = refl

cut_front : (k m : ℕ) (rest : List ℕ) → cut_line (take m (take k (35 ∷ rest))) ≡ []
cut_front zero m rest = ap cut_line (take-nil m) ∙ cut_comment 0 rest
cut_front (suc k) m rest = cut_comment m (take k rest)

cut_either : (b : Bool) (text other : List ℕ) → cut_line text ≡ [] → cut_line other ≡ [] → cut_line (cond b text other) ≡ []
cut_either true text other h k = h
cut_either false text other h k = k

cut_no_cr : (k : ℕ) (rest : List ℕ) → cut_line (no_cr (take k (35 ∷ rest))) ≡ []
cut_no_cr k rest =
    let text : List ℕ = take k (35 ∷ rest) in
    cut_either (ltb 0 (length text) && eqb (get_or text (length text - 1) 0) 13) (take (length text - 1) text) text (cut_front k (length text - 1) rest) (cut_comment k rest)

cut_whole : (rest : List ℕ) → cut_line (35 ∷ rest) ≡ []
unfolding cut_line
cut_whole rest = refl

cut_ended : (rest : List ℕ) → cut_line (without_terminator (35 ∷ rest)) ≡ []
cut_ended rest =
    let text : List ℕ = 35 ∷ rest in
    cut_either (ltb 0 (length text) && eqb (get_or text (length text - 1) 0) 10) (no_cr (take (length text - 1) text)) text (cut_no_cr (length text - 1) rest) (cut_whole rest)

-- a line that is nothing once it is cut adds no line
numbered_before : (n : ℕ) (lines : List (List ℕ)) (last : List ℕ) → cut_line last ≡ [] → numbered_from n (lines ++ last ∷ []) ≡ numbered_from n lines
numbered_before n [] last none = ap (λ (text : List ℕ). cond (eqb (length text) 0) [] ((n, text) ∷ [])) none
numbered_before n (line ∷ lines) last none =
    ap (λ (rest : Lines). cond (eqb (length (cut_line line)) 0) rest ((n, cut_line line) ∷ rest)) (numbered_before (n + 1) lines last none)

-- a byte that is no line feed
abbrev IsWithinLine : ℕ → Type 0
IsWithinLine b = 10 < b

-- a text that ends with a line feed has the same lines where a comment line follows
comment_behind : (text rest : List ℕ) → EndsLine text → All IsWithinLine rest → numbered (text ++ (35 ∷ rest ++ 10 ∷ [])) ≡ numbered text
comment_behind text rest ends bytes =
    let comment : List ℕ = 35 ∷ rest ++ 10 ∷ [] in
    let len : length comment ≡ length (35 ∷ rest) + 1 = length-append (35 ∷ rest) (10 ∷ []) in
    let whole : All IsWithinLine (35 ∷ rest) = All-cons IsWithinLine 35 rest (omega arith) bytes in
    let one : lines_of comment ≡ comment ∷ [] =
    lines-one comment (omega (arith, len)) (λ k lt e.
    let within : k < length (35 ∷ rest) = omega (arith, len, lt) in
    let at : get_or (35 ∷ rest) k 0 ≡ 10 = sym (get_or_append_left (35 ∷ rest) (10 ∷ []) 0 k within) ∙ e in
    omega (arith, whole k 0 within, at)) in
    let lines : text_lines (text ++ comment) ≡ text_lines text ++ without_terminator comment ∷ [] =
    ap (map without_terminator) (lines-append (length text) text comment (omega arith) ends ∙ ap (λ (ls : List (List ℕ)). lines_of text ++ ls) one)
    ∙ map-append without_terminator (lines_of text) (comment ∷ []) in
    ap (numbered_from 1) lines ∙ numbered_before 1 (text_lines text) (without_terminator comment) (cut_ended (rest ++ 10 ∷ []))

-- ---- a dump with a comment line behind it

ends_behind : (first second : List ℕ) → EndsLine first → EndsLine second → EndsLine (first ++ second)
ends_behind first [] h k = subst EndsLine (sym (append-nil first)) h
ends_behind first (b ∷ second) h (inl none) = absurd (omega arith)
ends_behind first (b ∷ second) h (inr feed) =
    let whole : List ℕ = first ++ b ∷ second in
    let len : length whole ≡ length first + length (b ∷ second) = length-append first (b ∷ second) in
    let place : length whole - 1 - length first ≡ length (b ∷ second) - 1 = omega (arith, len) in
    inr (get_or-append_right first (b ∷ second) (length first) (length whole - 1) 0 refl (omega (arith, len)) ∙ ap (λ n. get_or (b ∷ second) n 0) place ∙ feed)

ends_with_line_feed : (line : List ℕ) → EndsLine (with_line_feed line)
ends_with_line_feed line =
    let len : length (line ++ 10 ∷ []) ≡ length line + 1 = length-append line (10 ∷ []) in
    inr (get_or_at line 10 [] 0 (length (line ++ 10 ∷ []) - 1) (omega (arith, len)))

ends_with_lines : (lines : List (List ℕ)) → EndsLine (flat_map with_line_feed lines)
ends_with_lines [] = inl refl
ends_with_lines (line ∷ lines) = ends_behind (with_line_feed line) (flat_map with_line_feed lines) (ends_with_line_feed line) (ends_with_lines lines)

spells_with_comment : (names : List (List ℕ)) (signals : ℕ) (text rest : List ℕ) (r : Recording) → EndsLine text → All IsWithinLine rest → Spells names signals text r
    → Spells names signals (text ++ (35 ∷ rest ++ 10 ∷ [])) r
spells_with_comment names signals text rest r ends bytes h =
    let front = h.front.front in
    record {
      lines = h.lines;
      front = record {
        number = h.front.number;
        front = record {
          head = front.head;
          cycles_line = front.cycles_line;
          whole = comment_behind text rest ends bytes ∙ front.whole;
          is_head = front.is_head;
          is_cycles_line = front.is_cycles_line;
        };
        few = h.front.few;
      };
      rows = h.rows;
    }

-- ---- the ratio line

glyph_within : (d : ℕ) → IsWithinLine (digit_glyph false d)
glyph_within d = by (ltb d 10)
  where
    by : (b : Bool) → IsWithinLine (cond b (48 + d) (87 + d))
    by true = omega arith
    by false = omega arith

digits_within : (k n : ℕ) (more : List ℕ) → All IsWithinLine more → All IsWithinLine (digits_onto k 10 false n more)
digits_within zero n more h = h
digits_within (suc k) n more h =
    either (eqb (n / 10) 0) (digit_glyph false (n % 10) ∷ more) (digits_onto k 10 false (n / 10) (digit_glyph false (n % 10) ∷ more)) one (digits_within k (n / 10) (digit_glyph false (n % 10) ∷ more) one)
  where
    one : All IsWithinLine (digit_glyph false (n % 10) ∷ more)
    one = All-cons IsWithinLine (digit_glyph false (n % 10)) more (glyph_within (n % 10)) h

    either : (b : Bool) (xs ys : List ℕ) → All IsWithinLine xs → All IsWithinLine ys → All IsWithinLine (cond b xs ys)
    either true xs ys p q = p
    either false xs ys p q = q

decimal_within : (n : ℕ) → All IsWithinLine (decimal n)
unfolding digits
decimal_within n = digits_within 64 n [] (All-nil IsWithinLine)

text_within : (text : List ℕ) → list_all (λ b. ltb 10 b) text ≡ true → All IsWithinLine text
text_within text h k d lt = ltb-true 10 (get_or text k d) (AllPass-from_list_all (λ b. ltb 10 b) text h k d lt)

both_within : (first second : List ℕ) → All IsWithinLine first → All IsWithinLine second → All IsWithinLine (first ++ second)
both_within first second h k = All-append IsWithinLine first second h k

thousandths_within : (n : ℕ) → All IsWithinLine (thousandths n)
thousandths_within n =
    let end : List ℕ = last_digit (n / 100) ∷ last_digit (n / 10) ∷ last_digit n ∷ [] in
    both_within (decimal (n / 1000) ++ codes ".") end (both_within (decimal (n / 1000)) (codes ".") (decimal_within (n / 1000)) (text_within (codes ".") refl))
    (All-cons IsWithinLine (last_digit (n / 100)) (last_digit (n / 10) ∷ last_digit n ∷ []) (omega arith)
    (All-cons IsWithinLine (last_digit (n / 10)) (last_digit n ∷ []) (omega arith) (All-cons IsWithinLine (last_digit n) [] (omega arith) (All-nil IsWithinLine))))

ratio_within : (ratio : Option ℕ) → All IsWithinLine (ratio_text ratio)
ratio_within (Some ratio) = thousandths_within ratio
ratio_within None = text_within (codes "-") refl

-- the ratio line behind its #
abbrev ratio_rest : (traced known : ℕ) → List ℕ
ratio_rest traced known = codes " traced " ++ decimal traced ++ codes " known " ++ decimal known ++ codes " ratio " ++ ratio_text (in_thousandths known traced)

rest_within : (traced known : ℕ) → All IsWithinLine (ratio_rest traced known)
rest_within traced known =
    let one : List ℕ = codes " traced " ++ decimal traced in
    let two : List ℕ = one ++ codes " known " ++ decimal known in
    both_within (two ++ codes " ratio ") (ratio_text (in_thousandths known traced))
    (both_within two (codes " ratio ")
    (both_within (one ++ codes " known ") (decimal known)
    (both_within one (codes " known ") (both_within (codes " traced ") (decimal traced) (text_within (codes " traced ") refl) (decimal_within traced)) (text_within (codes " known ") refl)) (decimal_within known))
    (text_within (codes " ratio ") refl))
    (ratio_within (in_thousandths known traced))

-- ---- the rows

no_two_signals : (n : ℕ) → AllPairs (λ a b. a ≢ b) (signals_below n)
no_two_signals n i j d lt within e =
    let number : ℕ → Sig = λ s. record { 0 = s } in
    let inside : j < n = subst (λ m. j < m) (length-map-range_with_len number 0 n) within in
    let same : i ≡ j =
    ap (λ (s : Sig). s.0) (sym (get_or-map-range_with_len number 0 n i i d (omega arith) (omega arith)) ∙ e ∙ get_or-map-range_with_len number 0 n j j d inside (omega arith)) in
    omega arith

pub shown_once : ShowsEachOnce
shown_once c true = no_two_signals (length c.drivers)
shown_once c false = AllPairs-filter (λ a b. a ≢ b) (λ s. is_flip_flop (driver_at c.drivers s.0)) (signals_below (length c.drivers)) (no_two_signals (length c.drivers))

pub shown_within : ShowsSignals
shown_within c true = signals_within (length c.drivers)
shown_within c false = All-filter (λ s. is_flip_flop (driver_at c.drivers s.0)) (λ s. s.0 < length c.drivers) (signals_below (length c.drivers)) (signals_within (length c.drivers))

recorded_signals : (known : Lit → Bool) (cycles : ℕ) (sigs : List Sig) → recorded (map (known_row known cycles) sigs) ≡ sigs
recorded_signals known cycles [] = refl
recorded_signals known cycles (sig ∷ sigs) = ap (λ (rest : List Sig). sig ∷ rest) (recorded_signals known cycles sigs)

known_recording : (c : Circuit) (cycles : ℕ) (known : Lit → Bool) (all : Bool) → IsCount cycles → IsRecording (known_rows c cycles known all)
known_recording c cycles known all count = record {
  count = count;
  full = All-map (λ row. length row.bits ≡ cycles) (known_row known cycles) (shown c all) (λ k d lt. length-map-range_with_len (λ t. known_bit known t (get_or (shown c all) k d)) 0 cycles);
  once = subst (AllPairs (λ a b. a ≢ b)) (sym (recorded_signals known cycles (shown c all))) (shown_once c all);
}

-- ---- the law

pub table_is_dump : TableIsDump
table_is_dump c cycles known traced all circuit count few =
    let r : Recording = known_rows c cycles known all in
    let within : All (λ row. row.sig.0 < length c.drivers) r.rows = All-map (λ (row : Row). row.sig.0 < length c.drivers) (known_row known cycles) (shown c all) (shown_within c all) in
    spells_with_comment c.names (length c.drivers) (printed c.names r) (ratio_rest traced (known_count c cycles known)) r (ends_with_lines (printed_lines c.names r))
    (rest_within traced (known_count c cycles known))
    (read_back c r circuit (known_recording c cycles known all count) within few)
