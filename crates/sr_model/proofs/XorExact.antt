-- Exactly which literals are forced at a gate whose target has the parity of its pins, or the other bit.
use Rattle.std.proofs.Common.{◌≡◌, ◌⊎◌, ◌↔◌, Bool, true, false, not, inl, inr, sym, ap, ◌∙◌}
use Rattle.std.specs.List.{Contains}
use Rattle.std.proofs.lemmas.Bool.{cases_Bool, true≢false}
use Rattle.sr_model.specs.declared.cells.Cell.{Cell}
use Rattle.sr_model.specs.declared.cells.Lit.{Lit}
use Rattle.sr_model.specs.Netlist.{cell_eq, Instance, cells_of, Valuation, IsRow, Has}
use Rattle.sr_model.specs.Closure.{Forces, passing}
use Rattle.sr_model.specs.XorLike.{plus, parity, is_odd, IsXorLike}
use Rattle.sr_model.proofs.Rows.{cell_cases, cell_eq-swap, put, put-at, put-other, known_forced}
use Rattle.sr_model.proofs.AndLike.{bit_cases}
use Rattle.sr_model.proofs.Parity.{parity-turn}
use Rattle.sr_model.proofs.OddCells.{target_odd}
use Rattle.sr_model.specs.RuleLaws.{XorForces}
use Rattle.sr_model.proofs.XorLike.{is_odd-member, twice, row_balanced, xor_forces, xor_forces-from}

module _ (inverted : Bool) (i : Instance) (xor_like : IsXorLike inverted i) where
  -- where another cell stands an odd number of times, some row has the literal
  pub row_having : (l : Lit) (d : Cell) → is_odd d (cells_of i) ≡ true → cell_eq d l.cell ≡ false → (v : Valuation) × IsRow i v × Has v l
  row_having l d odd apart =
      let w : Valuation = put (λ _. false) l.cell l.bit in
      let has : w l.cell ≡ l.bit = put-at (λ _. false) l.cell l.bit in
      elim (bit_cases (parity w (cells_of i)) inverted) [
        | inl e ↦ (w, row_balanced inverted i xor_like (λ _. false) w e, has)
        | inr e ↦
            let v : Valuation = put w d (not (w d)) in
            let turned : parity v (cells_of i) ≡ inverted =
            parity-turn w d (cells_of i) ∙ ap (λ b. plus b (parity w (cells_of i))) odd ∙ ap not e ∙ twice inverted in
            (v, row_balanced inverted i xor_like (λ _. false) v turned, put-other w d (not (w d)) l.cell (cell_eq-swap d l.cell apart) ∙ has)
      ]

  -- some row has the literal of a cell that stands an even number of times
  pub row_having_even : (Contains i.pins i.target → ⊥) → (l : Lit) → is_odd l.cell (cells_of i) ≡ false → (v : Valuation) × IsRow i v × Has v l
  row_having_even apart l even =
      row_having l i.target (target_odd i apart) (elim (cell_cases i.target l.cell) [
        | inl e ↦ absurd (true≢false (sym (target_odd i apart) ∙ ap (λ c. is_odd c (cells_of i)) e ∙ even))
        | inr differ ↦ differ
      ])

  module _ (known : Lit → Bool) where
    -- a cell that stands an even number of times: nothing but what is known
    pub xor_even-exact : (Contains i.pins i.target → ⊥) → (l : Lit) → Contains (cells_of i) l.cell → is_odd l.cell (cells_of i) ≡ false
        → Forces i (passing known) l ↔ (known l ≡ true)
    xor_even-exact apart l on_cells even = (
      λ f. elim (cases_Bool (known l)) [
        | inl holds ↦ holds
        | inr new ↦ let x : XorForces inverted i known l = xor_forces inverted i xor_like known l f new in absurd (true≢false (sym x.odd ∙ even))
      ],
      λ holds. let some : (v : Valuation) × IsRow i v × Has v l = row_having_even apart l even in known_forced known i l on_cells holds some.0 some.1 some.2,
    )

    -- a cell that stands an odd number of times, as another cell does
    pub xor_odd-exact : (l : Lit) (d : Cell) → is_odd l.cell (cells_of i) ≡ true → is_odd d (cells_of i) ≡ true → cell_eq d l.cell ≡ false
        → Forces i (passing known) l ↔ ((known l ≡ true) ⊎ XorForces inverted i known l)
    xor_odd-exact l d odd odd_d apart = (
      λ f. elim (cases_Bool (known l)) [ inl holds ↦ inl holds | inr new ↦ inr (xor_forces inverted i xor_like known l f new) ],
      λ h. elim h [
        | inl holds ↦
            let some : (v : Valuation) × IsRow i v × Has v l = row_having l d odd_d apart in
            known_forced known i l (is_odd-member l.cell (cells_of i) odd) holds some.0 some.1 some.2
        | inr x ↦ xor_forces-from inverted i xor_like known l x
      ],
    )
