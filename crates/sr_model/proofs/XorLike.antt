-- What is forced at a gate whose target has the parity of its pins, or the other bit.
use Rattle.std.proofs.Common.{◌≡◌, ◌&&◌, Bool, true, false, not, List, [], ◌∷◌, map, inl, inr, sym, subst, refl, ap, ◌∙◌}
use Rattle.std.specs.List.{Contains, All, filter}
use Rattle.std.proofs.lemmas.Bool.{cases_Bool, true≢false, and_parts, and_from, not-true, not_from_false}
use Rattle.std.proofs.lemmas.List.Elements.{All-contains, All-map}
use Rattle.sr_model.specs.declared.cells.Cell.{Cell}
use Rattle.sr_model.specs.declared.cells.Lit.{Lit}
use Rattle.sr_model.specs.Netlist.{cell_eq, Instance, cells_of, Valuation, IsRow, Has}
use Rattle.sr_model.specs.Closure.{Forces, passing, lit}
use Rattle.sr_model.specs.RuleLaws.{XorForces}
use Rattle.sr_model.specs.XorLike.{plus, parity, is_odd, IsXorLike}
use Rattle.sr_model.proofs.lemmas.Members.{Contains-here, Contains-there, Contains-map, filter-member, filter-passes, filter-has, All-from_Contains}
use Rattle.sr_model.proofs.Rows.{cell_cases, cell_eq-swap, put, put-at, put-other, Keeps, Keeps-itself, Keeps-put, Forces-row}
use Rattle.sr_model.proofs.AndLike.{bit_cases}
use Rattle.sr_model.proofs.Parity.{plus_move, parity-turn, parity-agree}

pub not_own : (b : Bool) → not b ≡ b → ⊥
not_own true e = cc
not_own false e = cc

pub twice : (b : Bool) → not (not b) ≡ b
twice true = refl
twice false = refl

-- a cell that stands an odd number of times stands once at least
pub is_odd-member : (c : Cell) (cs : List Cell) → is_odd c cs ≡ true → Contains cs c
is_odd-member c [] odd = absurd (true≢false (sym odd))
is_odd-member c (d ∷ cs) odd =
    elim (cell_cases d c) [
      | inl e ↦ subst (Contains (d ∷ cs)) e (Contains-here d cs)
      | inr apart ↦ Contains-there d cs c (is_odd-member c cs (ap (λ b. plus b (is_odd c cs)) (sym apart) ∙ odd))
    ]

back : (a b r : Bool) → plus a r ≡ b → a ≡ plus b r
back true true true e = cc
back true true false e = refl
back true false true e = refl
back true false false e = cc
back false true true e = refl
back false true false e = cc
back false false true e = cc
back false false false e = refl

module _ (inverted : Bool) (i : Instance) (xor_like : IsXorLike inverted i) (known : Lit → Bool) where
  pub balanced_row : (v : Valuation) → IsRow i v → parity v (cells_of i) ≡ inverted
  balanced_row v is_row = plus_move (v i.target) inverted (parity v i.pins) (is_row ∙ xor_like v)

  pub row_balanced : (v : Valuation) → parity v (cells_of i) ≡ inverted → IsRow i v
  row_balanced v e = back (v i.target) inverted (parity v i.pins) e ∙ sym (xor_like v)

  pub xor_forces : (l : Lit) → Forces i (passing known) l → known l ≡ false → XorForces inverted i known l
  xor_forces l f new =
      let r : Valuation = f.row in
      let has : f.row l.cell ≡ l.bit = Forces-row known i l f f.row f.is_row (Keeps-itself known f.row) in
      let balanced : parity f.row (cells_of i) ≡ inverted = balanced_row f.row f.is_row in
      let v : Valuation = put f.row l.cell (not (f.row l.cell)) in
      let keeps_v : Keeps known f.row v = Keeps-put known f.row f.row l.cell (not (f.row l.cell)) (Keeps-itself known f.row)
      (λ k. absurd (true≢false (sym k ∙ ap (λ b. known (lit l.cell b)) has ∙ new))) in
      let odd : is_odd l.cell (cells_of i) ≡ true = elim (cases_Bool (is_odd l.cell (cells_of i))) [
        | inl odd ↦ odd
        | inr even ↦
            let turned : parity v (cells_of i) ≡ inverted =
            parity-turn f.row l.cell (cells_of i) ∙ ap (λ b. plus b (parity f.row (cells_of i))) even ∙ balanced in
            let e : v l.cell ≡ l.bit = Forces-row known i l f v (row_balanced v turned) keeps_v in
            absurd (not_own (f.row l.cell) (sym (put-at f.row l.cell (not (f.row l.cell))) ∙ e ∙ sym has))
      ] in
      let turned_v : parity v (cells_of i) ≡ not (parity f.row (cells_of i)) =
      parity-turn f.row l.cell (cells_of i) ∙ ap (λ b. plus b (parity f.row (cells_of i))) odd in
      record {
        on_cells = f.on_cells;
        odd = odd;
        choice = f.row;
        balanced = balanced;
        chosen = has;
        others = λ d odd_d apart. elim (cases_Bool (known (lit d (f.row d)))) [
          | inl holds ↦ holds
          | inr unknown ↦
              let w : Valuation = put v d (not (v d)) in
              let keeps_w : Keeps known f.row w = Keeps-put known f.row v d (not (v d)) keeps_v (λ k. absurd (true≢false (sym k ∙ unknown))) in
              let turned : parity w (cells_of i) ≡ inverted =
              parity-turn v d (cells_of i) ∙ ap (λ b. plus b (parity v (cells_of i))) odd_d ∙ ap not turned_v ∙ twice (parity f.row (cells_of i)) ∙ balanced in
              let e : w l.cell ≡ l.bit = Forces-row known i l f w (row_balanced w turned) keeps_w in
              let e2 : w l.cell ≡ not (f.row l.cell) = put-other v d (not (v d)) l.cell (cell_eq-swap d l.cell apart) ∙ put-at f.row l.cell (not (f.row l.cell)) in
              absurd (not_own (f.row l.cell) (sym e2 ∙ e ∙ sym has))
        ];
      }

  counts : Cell → Cell → Bool
  counts c d = is_odd d (cells_of i) && not (cell_eq d c)

  pub xor_forces-from : (l : Lit) → XorForces inverted i known l → Forces i (passing known) l
  unfolding counts
  xor_forces-from l x =
      let others : List Cell = filter (counts l.cell) (cells_of i) in
      let part : List Lit = map (λ d. lit d (x.choice d)) others in
      let each : (P : Lit → Type 0) → ((d : Cell) → Contains (cells_of i) d → is_odd d (cells_of i) ≡ true → cell_eq d l.cell ≡ false → P (lit d (x.choice d))) → All P part =
      λ P f. All-map P (λ d. lit d (x.choice d)) others (All-from_Contains (λ d. P (lit d (x.choice d))) others (λ d h.
      let passes : (is_odd d (cells_of i) ≡ true) × (not (cell_eq d l.cell) ≡ true) =
      and_parts (is_odd d (cells_of i)) (not (cell_eq d l.cell)) (filter-passes (counts l.cell) (cells_of i) d h) in
      f d (filter-member (counts l.cell) (cells_of i) d h) passes.0 (not-true (cell_eq d l.cell) passes.1))) in
      record {
        on_cells = x.on_cells;
        part = part;
        part_known = each (passing known) (λ d h odd apart. x.others d odd apart);
        part_on_cells = each (λ y. Contains (cells_of i) y.cell) (λ d h odd apart. h);
        row = x.choice;
        is_row = row_balanced x.choice x.balanced;
        row_agrees = each (Has x.choice) (λ d h odd apart. refl);
        forced = λ v is_row agrees. elim (bit_cases (v l.cell) (x.choice l.cell)) [
          | inl same ↦ same ∙ x.chosen
          | inr differs ↦
              let w : Valuation = put v l.cell (not (v l.cell)) in
              let same : parity w (cells_of i) ≡ parity x.choice (cells_of i) = parity-agree w x.choice (cells_of i) (λ d odd. elim (cell_cases d l.cell) [
                | inl e ↦ subst (λ y. w y ≡ x.choice y) (sym e) (put-at v l.cell (not (v l.cell)) ∙ ap not differs ∙ twice (x.choice l.cell))
                | inr apart ↦
                    let h : Contains (cells_of i) d = is_odd-member d (cells_of i) odd in
                    put-other v l.cell (not (v l.cell)) d apart ∙ All-contains (Has v) part (lit d (x.choice d)) agrees
                    (Contains-map (λ d. lit d (x.choice d)) others d
                    (filter-has (counts l.cell) (cells_of i) d h (and_from (is_odd d (cells_of i)) (not (cell_eq d l.cell)) odd (not_from_false (cell_eq d l.cell) apart))))
              ]) in
              let turned : parity w (cells_of i) ≡ not (parity v (cells_of i)) =
              parity-turn v l.cell (cells_of i) ∙ ap (λ b. plus b (parity v (cells_of i))) x.odd in
              absurd (not_own inverted (ap not (sym (balanced_row v is_row)) ∙ sym turned ∙ same ∙ x.balanced))
        ];
      }
