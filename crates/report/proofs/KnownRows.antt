-- The literals that the rows of a table have are those that are known.
use Rattle.std.proofs.Common.{◌≡◌, ℕ, ◌<◌, ◌&&◌, Bool, true, false, List, [], ◌∷◌, length, get_or, map, Option, Some, None, IsTrue, refl, sym, subst, ap, ◌∙◌, inl, inr, arith, eqb}
use Rattle.std.specs.Prelude.{slice_get, if◌then◌else◌}
use Rattle.std.specs.Cmp.{both_ways}
use Rattle.std.specs.List.{All, range_with_len}
use Rattle.std.proofs.lemmas.Bool.{and_parts, and_from, or_cases, eqb-true, eq-eqb, false≢true}
use Rattle.std.proofs.lemmas.Option.{slice_get_within, slice_get-get_or, get_or_from_slice_get}
use Rattle.std.proofs.lemmas.List.{get_or-map, length-map}
use Rattle.std.proofs.lemmas.List.Elements.{All-head, All-tail}
use Rattle.std.proofs.lemmas.List.Folds.{list_any_at}
use Rattle.std.proofs.lemmas.List.FromFn.{get_or-map-range_with_len, length-map-range_with_len, fill_by_all}
use Rattle.sr_model.specs.declared.cells.Sig.{Sig}
use Rattle.sr_model.specs.declared.cells.Cell.{Cell}
use Rattle.sr_model.specs.declared.cells.Lit.{Lit}
use Rattle.sr_model.specs.Netlist.{Unrolled, cell_at}
use Rattle.sr_model.specs.Closure.{IsWithin, passing, lit}
use Rattle.sr_model.specs.Decisions.{IsConsistent}
use Rattle.sr_model.specs.Dump.{Row, dump_has, is_bit}
use Rattle.sr_model.proofs.lemmas.Laws.{sound, least, closed, has_base}
use Rattle.netlist.specs.Circuit.{unrolled_over}
use Rattle.report.specs.Table.{known_bit, known_row, shown}
use Rattle.report.specs.Laws.{TableAgain, TableIsSound}

-- ---- each literal of the rows is known

is_bit-known : (o : Option (Option Bool)) (b : Bool) → is_bit o b ≡ true → o ≡ Some (Some b)
is_bit-known (Some (Some true)) true e = refl
is_bit-known (Some (Some true)) false e = absurd (false≢true e)
is_bit-known (Some (Some false)) true e = absurd (false≢true e)
is_bit-known (Some (Some false)) false e = refl
is_bit-known (Some None) b e = absurd (false≢true e)
is_bit-known None b e = absurd (false≢true e)

-- whether a row has a literal
abbrev pub row_has : Lit → Row → Bool
row_has l row = eqb row.sig.0 l.cell.sig.0 && is_bit (slice_get row.bits l.cell.cycle) l.bit

-- a row that has a literal has its signal and, in its cycle, its bit
pub row_knows : (row : Row) (l : Lit) → row_has l row ≡ true → (row.sig.0 ≡ l.cell.sig.0) × (slice_get row.bits l.cell.cycle ≡ Some (Some l.bit))
row_knows row l h =
    let parts = and_parts (eqb row.sig.0 l.cell.sig.0) (is_bit (slice_get row.bits l.cell.cycle) l.bit) h in
    (eqb-true row.sig.0 l.cell.sig.0 parts.0, is_bit-known (slice_get row.bits l.cell.cycle) l.bit parts.1)

-- a bit as the two tests give it
abbrev bit_by : Bool → Bool → Option Bool
bit_by is_0 is_1 = if is_0 then Some false else (if is_1 then Some true else None)

bit_by-knows : (is_0 is_1 bit : Bool) (P : Bool → Type 0) → (is_0 ≡ true → P false) → (is_1 ≡ true → P true) → bit_by is_0 is_1 ≡ Some bit → P bit
bit_by-knows true is_1 true P f g e = absurd cc
bit_by-knows true is_1 false P f g e = f refl
bit_by-knows false true true P f g e = g refl
bit_by-knows false true false P f g e = absurd cc
bit_by-knows false false bit P f g e = let none : None ≡ Some bit = e in absurd cc

known_bit-known : (known : Lit → Bool) (cycle : ℕ) (sig : Sig) (bit : Bool) → known_bit known cycle sig ≡ Some bit → IsTrue (known (lit (cell_at cycle sig) bit))
known_bit-known known cycle sig bit e =
    bit_by-knows (known (lit (cell_at cycle sig) false)) (known (lit (cell_at cycle sig) true)) bit (λ b. IsTrue (known (lit (cell_at cycle sig) b))) (λ h. h) (λ h. h) e

row_is_known : (known : Lit → Bool) (cycles : ℕ) (sig : Sig) (l : Lit) → row_has l (known_row known cycles sig) ≡ true → IsTrue (known l)
row_is_known known cycles sig l h =
    let bits : List (Option Bool) = map (λ t. known_bit known t sig) (range_with_len 0 cycles) in
    let parts = row_knows (known_row known cycles sig) l h in
    let within : l.cell.cycle < length bits = slice_get_within bits l.cell.cycle (Some l.bit) parts.1 in
    let below : l.cell.cycle < cycles = subst (λ n. l.cell.cycle < n) (length-map-range_with_len (λ t. known_bit known t sig) 0 cycles) within in
    let is : known_bit known l.cell.cycle sig ≡ Some l.bit =
    sym (get_or-map-range_with_len (λ t. known_bit known t sig) 0 cycles l.cell.cycle l.cell.cycle (Some l.bit) below (omega arith))
    ∙ get_or_from_slice_get bits l.cell.cycle (Some l.bit) (Some l.bit) parts.1 in
    subst (λ i. IsTrue (known (lit (cell_at l.cell.cycle (record { 0 = i })) l.bit))) parts.0 (known_bit-known known l.cell.cycle sig l.bit is)

rows_are_known : (known : Lit → Bool) (cycles : ℕ) (sigs : List Sig) → IsWithin (passing (dump_has (map (known_row known cycles) sigs))) (passing known)
rows_are_known known cycles [] l h = absurd (false≢true h)
rows_are_known known cycles (sig ∷ rest) l h =
    elim (or_cases (row_has l (known_row known cycles sig)) (dump_has (map (known_row known cycles) rest) l) h) [
      | inl here ↦ row_is_known known cycles sig l here
      | inr later ↦ rows_are_known known cycles rest l later
    ]

-- ---- each known literal of a shown cell is one of the rows'

bit_by-is : (is_0 is_1 : Bool) → (is_0 ≡ true → is_1 ≡ true → ⊥) → (bit : Bool) → (if bit then is_1 else is_0) ≡ true → bit_by is_0 is_1 ≡ Some bit
bit_by-is true true apart bit h = absurd (apart refl refl)
bit_by-is true false apart true h = absurd (false≢true h)
bit_by-is true false apart false h = refl
bit_by-is false true apart true h = refl
bit_by-is false true apart false h = absurd (false≢true h)
bit_by-is false false apart true h = absurd (false≢true h)
bit_by-is false false apart false h = absurd (false≢true h)

-- where not both literals of a cell are known
known_bit-is : (known : Lit → Bool) → IsConsistent (passing known) → (cycle : ℕ) (sig : Sig) (bit : Bool) → IsTrue (known (lit (cell_at cycle sig) bit)) → known_bit known cycle sig ≡ Some bit
known_bit-is known apart cycle sig true h = bit_by-is (known (lit (cell_at cycle sig) false)) (known (lit (cell_at cycle sig) true)) (λ f g. apart (cell_at cycle sig) (f, g)) true h
known_bit-is known apart cycle sig false h = bit_by-is (known (lit (cell_at cycle sig) false)) (known (lit (cell_at cycle sig) true)) (λ f g. apart (cell_at cycle sig) (f, g)) false h

own_bit : (bit : Bool) → is_bit (Some (Some bit)) bit ≡ true
own_bit true = refl
own_bit false = refl

-- the row of a signal has a bit of it
row_has_bit : (known : Lit → Bool) (cycles cycle : ℕ) (sig : Sig) (bit : Bool) → cycle < cycles → known_bit known cycle sig ≡ Some bit → row_has (lit (cell_at cycle sig) bit) (known_row known cycles sig) ≡ true
row_has_bit known cycles cycle sig bit below is =
    let bits : List (Option Bool) = map (λ t. known_bit known t sig) (range_with_len 0 cycles) in
    let within : cycle < length bits = subst (λ n. cycle < n) (sym (length-map-range_with_len (λ t. known_bit known t sig) 0 cycles)) below in
    let at : slice_get bits cycle ≡ Some (Some bit) =
    slice_get-get_or bits cycle None within ∙ ap (λ (o : Option Bool). Some o) (get_or-map-range_with_len (λ t. known_bit known t sig) 0 cycles cycle cycle None below (omega arith) ∙ is) in
    and_from (eqb sig.0 sig.0) (is_bit (slice_get bits cycle) bit) (eq-eqb sig.0 sig.0 refl) (ap (λ (o : Option (Option Bool)). is_bit o bit) at ∙ own_bit bit)

rows_have : (known : Lit → Bool) (cycles : ℕ) (sigs : List Sig) (i : ℕ) (e : Sig) (cycle : ℕ) (bit : Bool) → i < length sigs → cycle < cycles → known_bit known cycle (get_or sigs i e) ≡ Some bit
    → IsTrue (dump_has (map (known_row known cycles) sigs) (lit (cell_at cycle (get_or sigs i e)) bit))
rows_have known cycles sigs i e cycle bit lt below is =
    let sig : Sig = get_or sigs i e in
    let l : Lit = lit (cell_at cycle sig) bit in
    let row : get_or (map (known_row known cycles) sigs) i (known_row known cycles e) ≡ known_row known cycles sig = get_or-map (known_row known cycles) sigs i e (known_row known cycles e) lt in
    list_any_at (row_has l) (map (known_row known cycles) sigs) i (known_row known cycles e) (subst (λ n. i < n) (sym (length-map sigs (known_row known cycles))) lt)
    (ap (row_has l) row ∙ row_has_bit known cycles cycle sig bit below is)

-- ---- rows of two tests that agree

-- the tests agree on a cell
abbrev AgreeOn : (Lit → Bool) → (Lit → Bool) → Cell → Type 0
AgreeOn first second cell = (bit : Bool) → first (lit cell bit) ≡ second (lit cell bit)

same_bit : (first second : Lit → Bool) (cycle : ℕ) (sig : Sig) → AgreeOn first second (cell_at cycle sig) → known_bit first cycle sig ≡ known_bit second cycle sig
same_bit first second cycle sig agree =
    ap (λ is_0. bit_by is_0 (first (lit (cell_at cycle sig) true))) (agree false) ∙ ap (λ is_1. bit_by (second (lit (cell_at cycle sig) false)) is_1) (agree true)

same_row : (first second : Lit → Bool) (cycles : ℕ) (sig : Sig) → ((cycle : ℕ) → cycle < cycles → AgreeOn first second (cell_at cycle sig)) → known_row first cycles sig ≡ known_row second cycles sig
same_row first second cycles sig agree =
    ap (λ (bits : List (Option Bool)). record { sig = sig; bits = bits })
    (fill_by_all (λ t. known_bit second t sig) (map (λ t. known_bit first t sig) (range_with_len 0 cycles)) cycles None (length-map-range_with_len (λ t. known_bit first t sig) 0 cycles)
    (λ t below. get_or-map-range_with_len (λ t. known_bit first t sig) 0 cycles t t None below (omega arith) ∙ same_bit first second t sig (agree t below)))

same_rows : (first second : Lit → Bool) (cycles : ℕ) (sigs : List Sig) → All (λ sig. (cycle : ℕ) → cycle < cycles → AgreeOn first second (cell_at cycle sig)) sigs
    → map (known_row first cycles) sigs ≡ map (known_row second cycles) sigs
same_rows first second cycles [] agree = refl
same_rows first second cycles (sig ∷ sigs) agree =
    let Agree : Sig → Type 0 = λ s. (cycle : ℕ) → cycle < cycles → AgreeOn first second (cell_at cycle s) in
    ap (λ (row : Row). row ∷ map (known_row first cycles) sigs) (same_row first second cycles sig (All-head Agree sig sigs agree))
    ∙ ap (λ (rows : List Row). known_row second cycles sig ∷ rows) (same_rows first second cycles sigs (All-tail Agree sig sigs agree))

-- ---- the laws

pub table_again : TableAgain
table_again c d known again all same apart same_again =
    let u : Unrolled = unrolled_over c d.cycles in
    let sigs : List Sig = shown c all in
    let base : Lit → Bool = dump_has (map (known_row known d.cycles) sigs) in
    let still_known : IsWithin (passing again) (passing known) =
    λ l h. same.1 l (least u (passing base) _ (closed u (passing (dump_has d.rows))) (λ x g. same.0 x (rows_are_known known d.cycles sigs x g)) l (same_again.0 l h)) in
    let agree : All (λ sig. (cycle : ℕ) → cycle < d.cycles → AgreeOn again known (cell_at cycle sig)) sigs =
    λ i e lt cycle below bit.
    let l : Lit = lit (cell_at cycle (get_or sigs i e)) bit in
    both_ways (again l) (known l) (still_known l)
    (λ h. same_again.1 l (has_base u (passing base) l (rows_have known d.cycles sigs i e cycle bit lt below (known_bit-is known apart cycle (get_or sigs i e) bit h)))) in (
      ap (λ (rows : List Row). record { cycles = d.cycles; rows = rows }) (same_rows again known d.cycles sigs agree),
      λ cell both. apart cell (still_known (lit cell false) both.0, still_known (lit cell true) both.1),
    )

pub table_is_sound : TableIsSound
table_is_sound c d known all same v runs matches l h =
    sound (unrolled_over c d.cycles) (passing (dump_has d.rows)) v runs matches l (same.0 l (rows_are_known known d.cycles (shown c all) l h))
