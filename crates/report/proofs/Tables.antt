-- The text of a table by its parts.
use Rattle.std.proofs.Common.{ℕ, ◌+◌, ◌<◌, ◌≡◌, Bool, List, [], ◌∷◌, ◌++◌, length, get_or, take, drop, suc, map, sym, ap, subst, ◌∙◌, arith, append_assoc}
use Rattle.std.specs.Prelude.{codes}
use Rattle.std.specs.List.{flat_map}
use Rattle.std.specs.Fmt.{decimal}
use Rattle.std.specs.List.{All}
use Rattle.std.proofs.lemmas.List.{append-nil, take-append-le, take_all}
use Rattle.std.proofs.lemmas.List.Concat.{flat_map-append}
use Rattle.std.proofs.lemmas.List.Elements.{All-filter, All-from_get_or, All-get_or}
use Rattle.std.proofs.lemmas.List.Folds.{flat_map-map}
use Rattle.std.proofs.lemmas.List.FromFn.{get_or-map-range_with_len, length-map-range_with_len, map-range_with_len_more, take-map-range_with_len}
use Rattle.sr_text.specs.Lines.{with_line_feed}
use Rattle.sr_text.specs.Numbers.{put_front}
use Rattle.sr_model.specs.Netlist.{Driver}
use Rattle.netlist.specs.Wiring.{driver_at, is_flip_flop, flip_flops, signals_below}
use Rattle.report.proofs.Joined.{texts_at}
use Rattle.sr_model.specs.declared.cells.Sig.{Sig}
use Rattle.sr_model.specs.declared.cells.Lit.{Lit}
use Rattle.sr_model.specs.Dump.{Row}
use Rattle.netlist.specs.Circuit.{Circuit}
use Rattle.dump_reader.specs.Head.{head_text}
use Rattle.dump_reader.specs.Print.{row_text, printed}
use Rattle.report.specs.Rows.{row_lines}
use Rattle.known_planes.specs.Counts.{known_count}
use Rattle.report.specs.Table.{known_row, ratio_line, shown, table_text}

-- the head and the rows of these signals
pub printed_parts : (c : Circuit) (cycles : ℕ) (known : Lit → Bool) (sigs : List Sig) →
    printed c.names (record { cycles = cycles; rows = map (known_row known cycles) sigs }) ≡ head_text cycles ++ row_lines c cycles known sigs
printed_parts c cycles known sigs =
    let lines : List ℕ = row_lines c cycles known sigs in
    ap (λ rest. with_line_feed (codes "srdump 1") ++ (with_line_feed (codes "cycles " ++ decimal cycles) ++ rest))
    (flat_map-map with_line_feed (row_text c.names) (map (known_row known cycles) sigs)
    ∙ flat_map-map (λ (row : Row). with_line_feed (row_text c.names row)) (known_row known cycles) sigs)
    ∙ sym (append_assoc (with_line_feed (codes "srdump 1")) (with_line_feed (codes "cycles " ++ decimal cycles)) lines)

-- and the ratio line
pub table_parts : (c : Circuit) (cycles : ℕ) (known : Lit → Bool) (traced : ℕ) (all : Bool) →
    table_text c cycles known traced all ≡ head_text cycles ++ row_lines c cycles known (shown c all) ++ ratio_line traced (known_count c cycles known)
table_parts c cycles known traced all = ap (λ text. text ++ ratio_line traced (known_count c cycles known)) (printed_parts c cycles known (shown c all))

-- the parts in turn
pub table_in_turn : (c : Circuit) (cycles : ℕ) (known : Lit → Bool) (traced : ℕ) (all : Bool) →
    table_text c cycles known traced all ≡ head_text cycles ++ (row_lines c cycles known (shown c all) ++ ratio_line traced (known_count c cycles known))
table_in_turn c cycles known traced all = table_parts c cycles known traced all ∙ append_assoc (head_text cycles) (row_lines c cycles known (shown c all)) (ratio_line traced (known_count c cycles known))

-- what was put at the front
pub front_of : (text bytes new : List ℕ) (n : ℕ) → n ≡ length text → new ≡ put_front text bytes → take n new ≡ text
front_of text bytes new n long is = ap (λ k. take k new) long ∙ ap (take (length text)) is ∙ take-append-le (length text) text (drop (length text) bytes) (omega arith) ∙ take_all (length text) text (omega arith)

abbrev pub no_sig : Sig
no_sig = record { 0 = 0 }

signal_at : (n i : ℕ) (d : Sig) → i < n → get_or (signals_below n) i d ≡ record { 0 = i }
signal_at n i d lt = get_or-map-range_with_len (λ s. record { 0 = s }) 0 n i i d lt (omega arith)

length_signals : (n : ℕ) → length (signals_below n) ≡ n
length_signals n = length-map-range_with_len (λ s. let x : Sig = record { 0 = s } in x) 0 n

flip_flops_within : (drivers : List Driver) → All (λ s. s.0 < length drivers) (flip_flops drivers)
flip_flops_within drivers =
    All-filter (λ s. is_flip_flop (driver_at drivers s.0)) (λ s. s.0 < length drivers) (signals_below (length drivers))
    (All-from_get_or (λ s. s.0 < length drivers) (signals_below (length drivers)) no_sig (λ i lt.
    let inside : i < length drivers = subst (λ n. i < n) (length_signals (length drivers)) lt in
    subst (λ (s : Sig). s.0 < length drivers) (sym (signal_at (length drivers) i no_sig inside)) inside))

-- a flip-flop by its place, in a list that has the flip-flops
pub sig_within : (drivers : List Driver) (sigs : List Sig) (i : ℕ) (d : Sig) → sigs ≡ flip_flops drivers → i < length sigs → (get_or sigs i d).0 < length drivers
sig_within drivers sigs i d is lt =
    All-get_or (λ s. s.0 < length drivers) sigs i d lt (subst (λ (xs : List Sig). All (λ s. s.0 < length drivers) xs) (sym is) (flip_flops_within drivers))

-- the texts of the signals before one, and that one's
pub signals_more : (f : Sig → List ℕ) (n : ℕ) → flat_map f (signals_below (n + 1)) ≡ flat_map f (signals_below n) ++ f (record { 0 = n })
signals_more f n =
    let sig : Sig = record { 0 = n } in
    ap (flat_map f) (map-range_with_len_more (λ s. let x : Sig = record { 0 = s } in x) 0 n n (omega arith)) ∙ flat_map-append f (signals_below n) (sig ∷ []) ∙ ap (λ ys. flat_map f (signals_below n) ++ ys) (append-nil (f sig))

-- the texts of the signals before one, that one's, and those after it
pub signals_at : (f : Sig → List ℕ) (n total : ℕ) → n < total
    → flat_map f (signals_below total) ≡ flat_map f (signals_below n) ++ (f (record { 0 = n }) ++ flat_map f (drop (suc n) (signals_below total)))
signals_at f n total lt =
    texts_at f (signals_below total) n no_sig (subst (λ k. n < k) (sym (length_signals total)) lt)
    ∙ ap (λ sigs. flat_map f sigs ++ (f (get_or (signals_below total) n no_sig) ++ flat_map f (drop (suc n) (signals_below total)))) (take-map-range_with_len (λ s. let x : Sig = record { 0 = s } in x) 0 total n (omega (arith, lt)))
    ∙ ap (λ sig. flat_map f (signals_below n) ++ (f sig ++ flat_map f (drop (suc n) (signals_below total)))) (signal_at total n no_sig lt)
