-- The signals that stand an odd number of times among the pins of a gate, and the cells of its instances.
use Rattle.std.specs.Prelude.{◌==◌}
use Rattle.std.proofs.Common.{◌≡◌, ◌≢◌, ℕ, suc, ◌+◌, ◌%◌, ◌&&◌, Bool, true, false, cond, eqb, List, [], ◌∷◌, map, arith, inl, inr, sym, subst, refl, ap, ◌∙◌}
use Rattle.std.specs.List.{Contains, AllPairs, count_by}
use Rattle.std.proofs.lemmas.Bool.{eq-eqb, cases_Bool}
use Rattle.std.proofs.lemmas.List.Sums.{sum_by-cons}
use Rattle.std.proofs.lemmas.List.Elements.{All-map}
use Rattle.std.proofs.lemmas.List.Kept.{AllPairs-cons}
use Rattle.sr_model.specs.declared.gates.Kind.{Kind}
use Rattle.sr_model.specs.declared.gates.Kind.TheVariants.{Dff}
use Rattle.sr_model.specs.declared.cells.Sig.{Sig}
use Rattle.sr_model.specs.declared.cells.Cell.{Cell}
use Rattle.sr_model.specs.declared.cells.Place.{Place}
use Rattle.sr_model.specs.Netlist.{cell_at, delay}
use Rattle.sr_model.specs.XorLike.{plus, is_odd}
use Rattle.sr_model.proofs.lemmas.Members.{not_in_nil, Contains-cases, map-member, All-from_Contains}
use Rattle.sr_model.proofs.Parity.{odd_step}
use Rattle.sr_model.proofs.XorLike.{is_odd-member}

-- whether the signal stands an odd number of times among the pins
abbrev pub odd_among : ℕ → List Sig → Bool
odd_among s pins = count_by (λ pin. pin.0 == s) pins % 2 == 1

-- each signal stands an even number of times
abbrev pub AllEven : List Sig → Type 0
AllEven pins = (s : ℕ) → odd_among s pins ≡ false

-- a cell stands among the pins' cells as often as its signal among the pins
pub odd_cell-is : (cycle : ℕ) (s : Sig) (pins : List Sig) → is_odd (cell_at cycle s) (map (cell_at cycle) pins) ≡ odd_among s.0 pins
odd_cell-is cycle s [] = refl
odd_cell-is cycle s (pin ∷ pins) =
    let same : eqb cycle cycle ≡ true = eq-eqb cycle cycle refl in
    ap (λ b. plus (b && eqb pin.0 s.0) (is_odd (cell_at cycle s) (map (cell_at cycle) pins))) same
    ∙ ap (plus (eqb pin.0 s.0)) (odd_cell-is cycle s pins)
    ∙ sym (odd_step (eqb pin.0 s.0) (count_by (λ pin. eqb pin.0 s.0) pins) (count_by (λ pin. eqb pin.0 s.0) (pin ∷ pins)) (sum_by-cons (λ pin. cond (eqb pin.0 s.0) 1 0) pin pins))

-- cells of one cycle, each an even number of times
pub all_even-from : (cycle : ℕ) (pins : List Sig) → ((c : Cell) → is_odd c (map (cell_at cycle) pins) ≡ false) → AllEven pins
all_even-from cycle pins even s = sym (odd_cell-is cycle (record { 0 = s }) pins) ∙ even (cell_at cycle (record { 0 = s }))

pub in_cycle : (cycle : ℕ) (c : Cell) (pins : List Sig) → Contains (map (cell_at cycle) pins) c → c.cycle ≡ cycle
in_cycle cycle c [] h = absurd (not_in_nil c h)
in_cycle cycle c (pin ∷ pins) h =
    elim (Contains-cases (cell_at cycle pin) (map (cell_at cycle) pins) c h) [ inl e ↦ ap (λ d. d.cycle) (sym e) | inr later ↦ in_cycle cycle c pins later ]

pub all_even-cells : (cycle : ℕ) (pins : List Sig) → AllEven pins → (c : Cell) → is_odd c (map (cell_at cycle) pins) ≡ false
all_even-cells cycle pins even c =
    elim (cases_Bool (is_odd c (map (cell_at cycle) pins))) [
      | inr fails ↦ fails
      | inl odd ↦
          let at : c.cycle ≡ cycle = in_cycle cycle c pins (is_odd-member c (map (cell_at cycle) pins) odd) in
          let same : c ≡ cell_at cycle c.sig = ap (λ n. record { cycle = n; sig = c.sig }) at in
          ap (λ d. is_odd d (map (cell_at cycle) pins)) same ∙ odd_cell-is cycle c.sig pins ∙ even c.sig.0
    ]

-- an instance whose target is none of its pins' cells
abbrev pub IsApartFrom : Kind → List Sig → Place → Type 0
IsApartFrom kind pins p = Contains (map (cell_at p.cycle) pins) (cell_at (p.cycle + delay kind) p.target) → ⊥

-- a gate that does not read its target, and a flip-flop, whose target's cell is a cycle later
pub apart_from_pins : (kind : Kind) (pins : List Sig) (p : Place) → (Contains pins p.target → ⊥) → IsApartFrom kind pins p
apart_from_pins kind pins p unread h =
    let found : (s : Sig) × Contains pins s × (cell_at p.cycle s ≡ cell_at (p.cycle + delay kind) p.target) = map-member (cell_at p.cycle) pins (cell_at (p.cycle + delay kind) p.target) h in
    unread (subst (Contains pins) (ap (λ c. c.sig) found.2) found.1)

pub dff_apart : (pins : List Sig) (p : Place) → IsApartFrom Dff pins p
dff_apart pins p h = let same : p.cycle + 1 ≡ p.cycle = in_cycle p.cycle (cell_at (p.cycle + 1) p.target) pins h in omega arith

-- the cells of a list of signals without repetition
pub cells_once : (cycle : ℕ) (sigs : List Sig) → AllPairs (λ a b. a ≢ b) sigs → AllPairs (λ a b. a ≢ b) (map (cell_at cycle) sigs)
cells_once cycle [] once = λ i j d lt within. omega arith
cells_once cycle (s ∷ sigs) once =
    let rest : AllPairs (λ a b. a ≢ b) sigs = λ i j x lt within. once (suc i) (suc j) x (omega arith) (omega arith) in
    AllPairs-cons (λ a b. a ≢ b) (cell_at cycle s) (map (cell_at cycle) sigs)
    (All-map (λ c. cell_at cycle s ≢ c) (cell_at cycle) sigs (All-from_Contains (λ q. cell_at cycle s ≢ cell_at cycle q) sigs
    (λ q h e. once 0 (suc h.0) q (omega arith) (omega (arith, h.1)) (ap (λ c. c.sig) e ∙ sym h.2))))
    (cells_once cycle sigs rest)
