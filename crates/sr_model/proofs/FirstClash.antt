-- Where a list has the cells of a base, its closure is consistent or there is a first contradiction.
use Rattle.std.proofs.Common.{◌≡◌, ◌⊎◌, ◌&&◌, ℕ, ◌≤◌, Bool, true, false, List, [], ◌∷◌, ◌++◌, length, Option, None, eqb, inl, inr, sym, subst, ap, ◌∙◌, zero, suc, slice_get}
use Rattle.std.specs.List.{Contains}
use Rattle.std.proofs.lemmas.Bool.{and_parts, or_cases, eqb-true, false≢true}
use Rattle.std.proofs.lemmas.Option.{slice_get_cases}
use Rattle.std.proofs.lemmas.List.Elements.{Contains-append_left, Contains-append_right}
use Rattle.sr_model.specs.declared.cells.Cell.{Cell}
use Rattle.sr_model.specs.declared.cells.Lit.{Lit}
use Rattle.sr_model.specs.Netlist.{Unrolled, cell_at}
use Rattle.sr_model.specs.Closure.{Closure, IsLeastClash, IsWithin, SameLits, HasBoth, level, passing, lit}
use Rattle.sr_model.specs.Dump.{Row, Known, dump_has, is_bit}
use Rattle.sr_model.specs.Decisions.{IsConsistent, HasFirstClash}
use Rattle.sr_model.proofs.lemmas.Members.{Contains-here}
use Rattle.sr_model.proofs.Decided.{Decided, decided_both, decided_some, least_number, least_cell}
use Rattle.sr_model.proofs.DecidedLevels.{joined_below, joined_below-has, instance_cells, forced-cell, decided_level, last_level}

module _ (u : Unrolled) (base : Lit → Bool) (cells : List Cell) (within : IsWithin (passing base) (λ l. Contains cells l.cell)) where
  all_cells : List Cell
  all_cells = cells ++ instance_cells u

  level-cell : (i : ℕ) (l : Lit) → level u (passing base) i l → Contains all_cells l.cell
  unfolding all_cells
  level-cell zero l given = Contains-append_left cells (instance_cells u) l.cell (within l given)
  level-cell (suc i) l at =
      elim at [
        | inl before ↦ level-cell i l before
        | inr forced ↦ Contains-append_right cells (instance_cells u) l.cell (forced-cell u (level u (passing base) i) l forced)
      ]

  abbrev ClashAt : ℕ → Cell → Type 0
  ClashAt i c = HasBoth (level u (passing base) i) c

  decided_clash : (i : ℕ) (c : Cell) → Decided (ClashAt i c)
  decided_clash i c =
      decided_both (level u (passing base) i (lit c false)) (level u (passing base) i (lit c true)) (decided_level u base i (lit c false)) (decided_level u base i (lit c true))

  abbrev SomeClash : ℕ → Type 0
  SomeClash i = (c : Cell) × Contains all_cells c × ClashAt i c

  some-clash : (i : ℕ) (c : Cell) → ClashAt i c → SomeClash i
  some-clash i c both = (c, level-cell i (lit c false) both.0, both)

  first_clash : (i : ℕ) → SomeClash i → HasFirstClash u (passing base)
  first_clash i some =
      let first : (m : ℕ) × SomeClash m × ((k : ℕ) → SomeClash k → m ≤ k) = least_number SomeClash (λ k. decided_some Cell (ClashAt k) (decided_clash k) all_cells) i some in
      elim (least_cell (ClashAt first.0) (decided_clash first.0) all_cells) [
        | inl none ↦ absurd (none first.1.0 first.1.1 first.1.2)
        | inr least ↦ (
          least.0,
          first.0,
          record {
            first_level = λ j d both. first.2 j (some-clash j d both);
            least_cell = record { both = least.1; least = λ d both. least.2 d (level-cell first.0 (lit d false) both.0) both };
          },
        )
      ]

  -- a level has a least cell with both literals, or none
  pub level_clash : (i : ℕ) → ((c : Cell) → HasBoth (level u (passing base) i) c → ⊥) ⊎ ((c : Cell) × IsLeastClash (level u (passing base) i) c)
  level_clash i =
      elim (least_cell (ClashAt i) (decided_clash i) all_cells) [
        | inl none ↦ inl (λ c both. none c (level-cell i (lit c false) both.0) both)
        | inr least ↦ inr (least.0, record { both = least.1; least = λ d both. least.2 d (level-cell i (lit d false) both.0) both })
      ]

  pub clash_or_none : IsConsistent (Closure u (passing base)) ⊎ HasFirstClash u (passing base)
  clash_or_none =
      let last : ℕ = (last_level u base).0 in
      let same : SameLits (level u (passing base) last) (Closure u (passing base)) = (last_level u base).1 in
      elim (decided_some Cell (ClashAt last) (decided_clash last) all_cells) [
        | inl some ↦ inr (first_clash last some)
        | inr none ↦ inl (λ c both.
            let here : ClashAt last c = (same.1 (lit c false) both.0, same.1 (lit c true) both.1) in
            none (some-clash last c here))
      ]

-- the cells of a dump's rows
cells_of_rows : List Row → List Cell
cells_of_rows [] = []
cells_of_rows (row ∷ rows) = joined_below (λ cycle. cell_at cycle row.sig ∷ []) (length row.bits) ++ cells_of_rows rows

none-past : (o : Option (Option Bool)) (bit : Bool) → o ≡ None → is_bit o bit ≡ true → ⊥
none-past o bit none holds = false≢true (ap (λ x. is_bit x bit) (sym none) ∙ holds)

row-cell : (row : Row) (l : Lit) → (eqb row.sig.0 l.cell.sig.0 && is_bit (slice_get row.bits l.cell.cycle) l.bit) ≡ true
    → Contains (joined_below (λ cycle. cell_at cycle row.sig ∷ []) (length row.bits)) l.cell
row-cell row l holds =
    let parts = and_parts (eqb row.sig.0 l.cell.sig.0) (is_bit (slice_get row.bits l.cell.cycle) l.bit) holds in
    let same : row.sig.0 ≡ l.cell.sig.0 = eqb-true row.sig.0 l.cell.sig.0 parts.0 in
    elim (slice_get_cases row.bits l.cell.cycle).1 [
      | inl here ↦ joined_below-has (λ cycle. cell_at cycle row.sig ∷ []) (length row.bits) l.cell.cycle here.1 l.cell
          (subst (λ n. Contains (cell_at l.cell.cycle row.sig ∷ []) (cell_at l.cell.cycle (record { 0 = n }))) same (Contains-here (cell_at l.cell.cycle row.sig) []))
      | inr past ↦ absurd (none-past (slice_get row.bits l.cell.cycle) l.bit past.1 parts.1)
    ]

dump-cell : (rows : List Row) (l : Lit) → dump_has rows l ≡ true → Contains (cells_of_rows rows) l.cell
unfolding cells_of_rows
dump-cell [] l holds = absurd (false≢true holds)
dump-cell (row ∷ rows) l holds =
    elim (or_cases (eqb row.sig.0 l.cell.sig.0 && is_bit (slice_get row.bits l.cell.cycle) l.bit) (dump_has rows l) holds) [
      | inl here ↦ Contains-append_left (joined_below (λ cycle. cell_at cycle row.sig ∷ []) (length row.bits)) (cells_of_rows rows) l.cell (row-cell row l here)
      | inr later ↦ Contains-append_right (joined_below (λ cycle. cell_at cycle row.sig ∷ []) (length row.bits)) (cells_of_rows rows) l.cell (dump-cell rows l later)
    ]

pub dump_clash_or_none : (u : Unrolled) (rows : List Row) → IsConsistent (Known u rows) ⊎ HasFirstClash u (passing (dump_has rows))
dump_clash_or_none u rows = clash_or_none u (dump_has rows) (cells_of_rows rows) (λ l holds. dump-cell rows l holds)

pub dump_level_clash : (u : Unrolled) (rows : List Row) (i : ℕ) → ((c : Cell) → HasBoth (level u (passing (dump_has rows)) i) c → ⊥) ⊎ ((c : Cell) × IsLeastClash (level u (passing (dump_has rows)) i) c)
dump_level_clash u rows i = level_clash u (dump_has rows) (cells_of_rows rows) (λ l holds. dump-cell rows l holds) i
