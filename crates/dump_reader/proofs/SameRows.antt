-- The lines of a text state one dump at most.
use Rattle.std.proofs.Common.{◌≡◌, ℕ, ◌<◌, ◌^◌, Bool, List, [], ◌∷◌, length, map, codes, Option, Some, refl, sym, ap, subst, ◌∙◌, arith}
use Rattle.std.specs.List.{All, AllZip, slice_get}
use Rattle.std.specs.Fmt.{decimal}
use Rattle.std.proofs.lemmas.Fmt.{decimal_injective}
use Rattle.std.proofs.lemmas.List.{length-map}
use Rattle.std.proofs.lemmas.List.Elements.{All-nil, All-cons}
use Rattle.std.proofs.lemmas.Option.{same_Some, slice_get_within}
use Rattle.sr_model.specs.declared.cells.Sig.{Sig}
use Rattle.sr_model.specs.Dump.{Row}
use Rattle.sr_text.proofs.lemmas.FirstFaults.{Line, same_cons}
use Rattle.dump_reader.specs.Grammar.{IsCyclesLine, HasFront, NamesSignal, StatesRow, bit_read}
use Rattle.dump_reader.specs.Laws.{HasOneReading, SpellsRecording}
use Rattle.dump_reader.proofs.Tokens.{same_tokens}

-- no two signals have one name
abbrev pub HasOwnNames : List (List ℕ) → Type 0
HasOwnNames names = (i j : ℕ) (name : List ℕ) → slice_get names i ≡ Some name → slice_get names j ≡ Some name → i ≡ j

-- ---- the front

pub same_cycles : (a b : ℕ) (line : List ℕ) → IsCyclesLine a line → IsCyclesLine b line → a ≡ b
same_cycles a b line h k =
    let digits : decimal a ≡ decimal b = (same_tokens line (codes "cycles") (decimal a) (codes "cycles") (decimal b) h.1 k.1).1 in
    let small_a : a < 2 ^ 64 = omega (arith, h.0.1) in
    let small_b : b < 2 ^ 64 = omega (arith, k.0.1) in
    decimal_injective a b small_a small_b digits

pub same_front : (text : List ℕ) (n m a b : ℕ) (left other : List Line) → HasFront text n a left → HasFront text m b other → (n ≡ m) × (a ≡ b) × (left ≡ other)
same_front text n m a b left other h k =
    let first = same_cons h.head k.head ((n, h.cycles_line) ∷ left) ((m, k.cycles_line) ∷ other) (sym h.whole ∙ k.whole) in
    let second : ((n, h.cycles_line) ≡ (m, k.cycles_line)) × (left ≡ other) = same_cons (n, h.cycles_line) (m, k.cycles_line) left other first.1 in
    let line : h.cycles_line ≡ k.cycles_line = ap (λ (p : Line). p.1) second.0 in
    (ap (λ (p : Line). p.0) second.0, same_cycles a b k.cycles_line (subst (IsCyclesLine a) line h.is_cycles_line) k.is_cycles_line, second.1)

-- ---- the rows

same_sig : (a b : Sig) → a.0 ≡ b.0 → a ≡ b
same_sig a b e = ap (λ n. record { 0 = n }) e

pub same_signal : (names : List (List ℕ)) (text a b : List ℕ) (s t : Sig) → HasOwnNames names → NamesSignal names text s a → NamesSignal names text t b → (s ≡ t) × (a ≡ b)
same_signal names text a b s t own h k =
    let tokens = same_tokens text h.name a k.name b h.tokens k.tokens in
    (same_sig s t (own s.0 t.0 k.name (h.is_name ∙ ap (λ (n : List ℕ). Some n) tokens.0) k.is_name), tokens.1)

same_somes : (xs ys : List (Option Bool)) → map (λ (x : Option Bool). Some x) xs ≡ map (λ (x : Option Bool). Some x) ys → xs ≡ ys
same_somes [] [] e = refl
same_somes [] (y ∷ ys) e = cc
same_somes (x ∷ xs) [] e = cc
same_somes (x ∷ xs) (y ∷ ys) e =
    let both = same_cons (Some x) (Some y) (map (λ (z : Option Bool). Some z) xs) (map (λ (z : Option Bool). Some z) ys) e in
    ap (λ (z : Option Bool). z ∷ xs) (same_Some x y both.0) ∙ ap (λ (zs : List (Option Bool)). y ∷ zs) (same_somes xs ys both.1)

pub same_row : (names : List (List ℕ)) (cycles : ℕ) (text : List ℕ) (a b : Row) → HasOwnNames names → StatesRow names cycles text a → StatesRow names cycles text b → a ≡ b
same_row names cycles text a b own h k =
    let both = same_signal names text h.characters k.characters a.sig b.sig own h.names_signal k.names_signal in
    let bits : a.bits ≡ b.bits = same_somes a.bits b.bits (sym h.bits ∙ ap (map bit_read) both.1 ∙ k.bits) in
    ap (λ (s : Sig). record { sig = s; bits = a.bits }) both.0 ∙ ap (λ (bs : List (Option Bool)). record { sig = b.sig; bits = bs }) bits

-- the lines state the rows, one by one
abbrev pub State : List (List ℕ) → ℕ → List Line → List Row → Type 0
State names cycles lines rows = AllZip (λ line row. StatesRow names cycles line.1 row) lines rows

pub same_rows : (names : List (List ℕ)) (cycles : ℕ) (lines : List Line) (a b : List Row) → HasOwnNames names → State names cycles lines a → State names cycles lines b → a ≡ b
same_rows names cycles [] [] [] own h k = refl
same_rows names cycles [] [] (b ∷ bs) own h k = absurd k
same_rows names cycles [] (a ∷ as') b own h k = absurd h
same_rows names cycles (line ∷ lines) [] b own h k = absurd h
same_rows names cycles (line ∷ lines) (a ∷ rows) [] own h k = absurd k
same_rows names cycles (line ∷ lines) (a ∷ rows) (b ∷ others) own h k =
    ap (λ (r : Row). r ∷ rows) (same_row names cycles line.1 a b own h.0 k.0) ∙ ap (λ (rs : List Row). b ∷ rs) (same_rows names cycles lines rows others own h.1 k.1)

pub one_reading : HasOneReading
one_reading c text a b circuit h k =
    let front = same_front text h.front.number k.front.number a.cycles b.cycles h.lines k.lines h.front.front k.front.front in
    let rows_h : State c.names b.cycles k.lines a.rows = subst (λ n. State c.names n k.lines a.rows) front.1 (subst (λ (ls : List Line). State c.names a.cycles ls a.rows) front.2 h.rows.each) in
    let rows : a.rows ≡ b.rows = same_rows c.names b.cycles k.lines a.rows b.rows circuit.distinct rows_h k.rows.each in
    ap (λ n. record { cycles = n; rows = a.rows }) front.1 ∙ ap (λ (rs : List Row). record { cycles = b.cycles; rows = rs }) rows

-- ---- what is spelled

all_full : (names : List (List ℕ)) (cycles : ℕ) (lines : List Line) (rows : List Row) → State names cycles lines rows → All (λ (row : Row). length row.bits ≡ cycles) rows
all_full names cycles [] [] h = All-nil (λ (row : Row). length row.bits ≡ cycles)
all_full names cycles [] (row ∷ rows) h = absurd h
all_full names cycles (line ∷ lines) [] h = absurd h
all_full names cycles (line ∷ lines) (row ∷ rows) h =
    let len : length row.bits ≡ cycles =
    sym (length-map row.bits (λ (x : Option Bool). Some x)) ∙ ap (λ (xs : List (Option (Option Bool))). length xs) (sym h.0.bits) ∙ length-map h.0.characters bit_read ∙ h.0.full in
    All-cons (λ (row : Row). length row.bits ≡ cycles) row rows len (all_full names cycles lines rows h.1)

all_within : (names : List (List ℕ)) (cycles : ℕ) (lines : List Line) (rows : List Row) → State names cycles lines rows → All (λ (row : Row). row.sig.0 < length names) rows
all_within names cycles [] [] h = All-nil (λ (row : Row). row.sig.0 < length names)
all_within names cycles [] (row ∷ rows) h = absurd h
all_within names cycles (line ∷ lines) [] h = absurd h
all_within names cycles (line ∷ lines) (row ∷ rows) h =
    All-cons (λ (row : Row). row.sig.0 < length names) row rows (slice_get_within names row.sig.0 h.0.names_signal.name h.0.names_signal.is_name) (all_within names cycles lines rows h.1)

pub spells_recording : SpellsRecording
spells_recording c text r circuit h = (
  record { count = h.front.front.is_cycles_line.0; full = all_full c.names r.cycles h.lines r.rows h.rows.each; once = h.rows.once },
  subst (λ n. All (λ (row : Row). row.sig.0 < n) r.rows) circuit.one_name_each (all_within c.names r.cycles h.lines r.rows h.rows.each),
)
