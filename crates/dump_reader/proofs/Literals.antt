-- The literals that the lines of a text record.
use Rattle.std.proofs.Common.{◌≡◌, ◌↔◌, ℕ, Bool, true, false, ◌&&◌, eqb, List, [], ◌∷◌, Option, Some, None, refl, sym, ap, subst, ◌∙◌, inl, inr}
use Rattle.std.specs.Prelude.{IsTrue, option_map, option_and_then}
use Rattle.std.specs.List.{slice_get}
use Rattle.std.proofs.lemmas.Bool.{and_parts, and_from, or_cases, or_left, or_right, eqb-true, eq-eqb, false≢true}
use Rattle.std.proofs.lemmas.Option.{none-some, same_Some, slice_get-map}
use Rattle.sr_model.specs.declared.cells.Sig.{Sig}
use Rattle.sr_model.specs.declared.cells.Lit.{Lit}
use Rattle.sr_model.specs.Dump.{Row, is_bit, dump_has}
use Rattle.sr_model.proofs.lemmas.Members.{not_in_nil, Contains-here, Contains-there, Contains-cases}
use Rattle.dump_reader.specs.Grammar.{NamesSignal, StatesRow, bit_read}
use Rattle.dump_reader.specs.Laws.{RecordsLiteral, HasLiteralsOfRows}
use Rattle.sr_text.proofs.lemmas.FirstFaults.{Line}
use Rattle.dump_reader.proofs.SameRows.{HasOwnNames, State, same_signal}

is_bit-known : (o : Option (Option Bool)) (b : Bool) → is_bit o b ≡ true → o ≡ Some (Some b)
is_bit-known (Some (Some true)) true e = refl
is_bit-known (Some (Some true)) false e = absurd (false≢true e)
is_bit-known (Some (Some false)) true e = absurd (false≢true e)
is_bit-known (Some (Some false)) false e = refl
is_bit-known (Some None) b e = absurd (false≢true e)
is_bit-known None b e = absurd (false≢true e)

is_bit-itself : (b : Bool) → is_bit (Some (Some b)) b ≡ true
is_bit-itself true = refl
is_bit-itself false = refl

read_is : (o : Option ℕ) (y : Option Bool) → option_map bit_read o ≡ Some (Some y) → option_and_then bit_read o ≡ Some y
read_is None y e = absurd (none-some (Some y) e)
read_is (Some c) y e = same_Some (bit_read c) (Some y) e

is_read : (o : Option ℕ) (y : Option Bool) → option_and_then bit_read o ≡ Some y → option_map bit_read o ≡ Some (Some y)
is_read None y e = absurd (none-some y e)
is_read (Some c) y e = ap (λ (x : Option (Option Bool)). Some x) e

wrapped : (o : Option (Option Bool)) (y : Option Bool) → option_map (λ (x : Option Bool). Some x) o ≡ Some (Some y) → o ≡ Some y
wrapped None y e = absurd (none-some (Some y) e)
wrapped (Some x) y e = same_Some (Some x) (Some y) e

-- a line records a literal
abbrev Records : List (List ℕ) → List ℕ → Lit → Type 0
Records names text l = (characters : List ℕ) × NamesSignal names text l.cell.sig characters × (option_and_then bit_read (slice_get characters l.cell.cycle) ≡ Some (Some l.bit))

same_sig : (a b : Sig) → a.0 ≡ b.0 → a ≡ b
same_sig a b e = ap (λ n. record { 0 = n }) e

-- the bit of a cycle, by the row and by its characters
same_bit : (names : List (List ℕ)) (cycles : ℕ) (text : List ℕ) (row : Row) (cycle : ℕ) → (h : StatesRow names cycles text row) → option_map bit_read (slice_get h.characters cycle) ≡ option_map (λ (x : Option Bool). Some x) (slice_get row.bits cycle)
same_bit names cycles text row cycle h =
    sym (slice_get-map bit_read h.characters cycle) ∙ ap (λ (xs : List (Option (Option Bool))). slice_get xs cycle) h.bits ∙ slice_get-map (λ (x : Option Bool). Some x) row.bits cycle

row_records : (names : List (List ℕ)) (cycles : ℕ) (text : List ℕ) (row : Row) (l : Lit) → StatesRow names cycles text row → (eqb row.sig.0 l.cell.sig.0 && is_bit (slice_get row.bits l.cell.cycle) l.bit) ≡ true → Records names text l
row_records names cycles text row l h e =
    let parts = and_parts (eqb row.sig.0 l.cell.sig.0) (is_bit (slice_get row.bits l.cell.cycle) l.bit) e in
    let sig : row.sig ≡ l.cell.sig = same_sig row.sig l.cell.sig (eqb-true row.sig.0 l.cell.sig.0 parts.0) in
    let bit : slice_get row.bits l.cell.cycle ≡ Some (Some l.bit) = is_bit-known (slice_get row.bits l.cell.cycle) l.bit parts.1 in (
      h.characters,
      subst (λ (s : Sig). NamesSignal names text s h.characters) sig h.names_signal,
      read_is (slice_get h.characters l.cell.cycle) (Some l.bit) (same_bit names cycles text row l.cell.cycle h ∙ ap (λ (o : Option (Option Bool)). option_map (λ (x : Option Bool). Some x) o) bit),
    )

row_recorded : (names : List (List ℕ)) (cycles : ℕ) (text : List ℕ) (row : Row) (l : Lit) → HasOwnNames names → StatesRow names cycles text row → Records names text l → (eqb row.sig.0 l.cell.sig.0 && is_bit (slice_get row.bits l.cell.cycle) l.bit) ≡ true
row_recorded names cycles text row l own h k =
    let same = same_signal names text h.characters k.0 row.sig l.cell.sig own h.names_signal k.1 in
    let read : option_and_then bit_read (slice_get h.characters l.cell.cycle) ≡ Some (Some l.bit) = ap (λ (cs : List ℕ). option_and_then bit_read (slice_get cs l.cell.cycle)) same.1 ∙ k.2 in
    let bit : slice_get row.bits l.cell.cycle ≡ Some (Some l.bit) =
    wrapped (slice_get row.bits l.cell.cycle) (Some l.bit) (sym (same_bit names cycles text row l.cell.cycle h) ∙ is_read (slice_get h.characters l.cell.cycle) (Some l.bit) read) in
    and_from (eqb row.sig.0 l.cell.sig.0) (is_bit (slice_get row.bits l.cell.cycle) l.bit) (eq-eqb row.sig.0 l.cell.sig.0 (ap (λ (s : Sig). s.0) same.0))
    (ap (λ (o : Option (Option Bool)). is_bit o l.bit) bit ∙ is_bit-itself l.bit)

literals : (names : List (List ℕ)) (cycles : ℕ) (lines : List Line) (rows : List Row) (l : Lit) → HasOwnNames names → State names cycles lines rows → IsTrue (dump_has rows l) ↔ RecordsLiteral names lines l
literals names cycles [] [] l own h = (λ e. absurd (false≢true e), λ k. absurd (not_in_nil k.0 k.2))
literals names cycles [] (row ∷ rows) l own h = absurd h
literals names cycles (line ∷ lines) [] l own h = absurd h
literals names cycles (line ∷ lines) (row ∷ rows) l own h =
    let here : Bool = eqb row.sig.0 l.cell.sig.0 && is_bit (slice_get row.bits l.cell.cycle) l.bit in
    let later = literals names cycles lines rows l own h.1 in (
      λ e. elim (or_cases here (dump_has rows l) e) [
        | inl first ↦ let k = row_records names cycles line.1 row l h.0 first in (line, k.0, Contains-here line lines, k.1, k.2)
        | inr rest ↦ let k = later.0 rest in (k.0, k.1, Contains-there line lines k.0 k.2, k.3, k.4)
      ],
      λ k. elim (Contains-cases line lines k.0 k.2) [
        | inl e ↦
            let records : Records names line.1 l = subst (λ (x : Line). Records names x.1 l) (sym e) (k.1, k.3, k.4) in
            or_left here (dump_has rows l) (row_recorded names cycles line.1 row l own h.0 records)
        | inr there ↦ or_right here (dump_has rows l) (later.1 (k.0, k.1, there, k.3, k.4))
      ],
    )

pub literals_of_rows : HasLiteralsOfRows
literals_of_rows c text r l circuit spells = literals c.names r.cycles spells.lines r.rows l circuit.distinct spells.rows.each
