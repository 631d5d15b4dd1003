-- What a set of literals forces at one instance, by a row of it.
use Rattle.std.proofs.Common.{◌≡◌, ◌⊎◌, Bool, true, false, cond, [], ◌∷◌, map, eqb, inl, inr, sym, subst, refl, ap, ◌∙◌}
use Rattle.std.specs.List.{Contains}
use Rattle.std.proofs.lemmas.Bool.{eqb-true, eq-eqb, and_parts, and_from, cases_Bool, true≢false, cond-true, cond-false}
use Rattle.std.proofs.lemmas.List.Elements.{All-contains, All-head}
use Rattle.sr_model.specs.declared.cells.Cell.{Cell}
use Rattle.sr_model.specs.declared.cells.Lit.{Lit}
use Rattle.sr_model.specs.Gate.{value}
use Rattle.sr_model.specs.Netlist.{Instance, cell_eq, cells_of, Valuation, IsRow, Has}
use Rattle.sr_model.specs.Closure.{Forces, passing, lit}
use Rattle.sr_model.proofs.lemmas.Members.{map-agree, All-one, All-from_Contains}

pub cell_eq-true : (a b : Cell) → cell_eq a b ≡ true → a ≡ b
cell_eq-true a b e =
    let parts : (eqb a.cycle b.cycle ≡ true) × (eqb a.sig.0 b.sig.0 ≡ true) = and_parts (eqb a.cycle b.cycle) (eqb a.sig.0 b.sig.0) e in
    let same_cycle : a.cycle ≡ b.cycle = eqb-true a.cycle b.cycle parts.0 in
    let same_sig : a.sig.0 ≡ b.sig.0 = eqb-true a.sig.0 b.sig.0 parts.1 in
    ap (λ n. record { cycle = n; sig = a.sig }) same_cycle ∙ ap (λ n. record { cycle = b.cycle; sig = record { 0 = n } }) same_sig

pub cell_eq-itself : (a : Cell) → cell_eq a a ≡ true
cell_eq-itself a = and_from (eqb a.cycle a.cycle) (eqb a.sig.0 a.sig.0) (eq-eqb a.cycle a.cycle refl) (eq-eqb a.sig.0 a.sig.0 refl)

pub cell_cases : (a b : Cell) → (a ≡ b) ⊎ (cell_eq a b ≡ false)
cell_cases a b = elim (cases_Bool (cell_eq a b)) [ inl holds ↦ inl (cell_eq-true a b holds) | inr fails ↦ inr fails ]

pub cell_eq-swap : (a b : Cell) → cell_eq a b ≡ false → cell_eq b a ≡ false
cell_eq-swap a b differ =
    elim (cell_cases b a) [
      | inl e ↦ absurd (true≢false (sym (cell_eq-itself a) ∙ ap (cell_eq a) (sym e) ∙ differ))
      | inr fails ↦ fails
    ]

-- the valuation with another bit at one cell
abbrev pub put : Valuation → Cell → Bool → Valuation
put v c bit d = cond (cell_eq d c) bit (v d)

pub put-at : (v : Valuation) (c : Cell) (bit : Bool) → put v c bit c ≡ bit
put-at v c bit = cond-true (cell_eq c c) bit (v c) (cell_eq-itself c)

pub put-other : (v : Valuation) (c : Cell) (bit : Bool) (d : Cell) → cell_eq d c ≡ false → put v c bit d ≡ v d
put-other v c bit d apart = cond-false (cell_eq d c) bit (v d) apart

-- w has each bit of v whose literal is known
abbrev pub Keeps : (Lit → Bool) → Valuation → Valuation → Type 0
Keeps known v w = (c : Cell) → known (lit c (v c)) ≡ true → w c ≡ v c

pub Keeps-itself : (known : Lit → Bool) (v : Valuation) → Keeps known v v
Keeps-itself known v c h = refl

pub Keeps-put : (known : Lit → Bool) (v w : Valuation) (c : Cell) (bit : Bool) → Keeps known v w → (known (lit c (v c)) ≡ true → bit ≡ v c) → Keeps known v (put w c bit)
Keeps-put known v w c bit keeps at d h =
    elim (cell_cases d c) [
      | inl e ↦ let at_d : bit ≡ v d = subst (λ x. known (lit x (v x)) ≡ true → bit ≡ v x) (sym e) at h in
          let here : put w c bit d ≡ bit = subst (λ x. put w c bit x ≡ bit) (sym e) (put-at w c bit) in here ∙ at_d
      | inr apart ↦ put-other w c bit d apart ∙ keeps d h
    ]

-- each row that keeps what is known of the forcing row has the literal
pub Forces-row : (known : Lit → Bool) (i : Instance) (l : Lit) (f : Forces i (passing known) l) (v : Valuation) → IsRow i v → Keeps known f.row v → Has v l
Forces-row known i l f v is_row keeps =
    f.forced v is_row (All-from_Contains (Has v) f.part (λ x h.
    let agrees : f.row x.cell ≡ x.bit = All-contains (Has f.row) f.part x f.row_agrees h in
    let x_known : known x ≡ true = All-contains (passing known) f.part x f.part_known h in
    let same : known (lit x.cell (f.row x.cell)) ≡ true = subst (λ b. known (lit x.cell b) ≡ true) (sym agrees) x_known in
    keeps x.cell same ∙ agrees))

-- a valuation of the pins makes a row, where the target is no pin
pub row_with : (i : Instance) → (Contains i.pins i.target → ⊥) → (w : Valuation) (bit : Bool) → bit ≡ value i.kind (map w i.pins) → IsRow i (put w i.target bit)
row_with i apart w bit e =
    let same : map (put w i.target bit) i.pins ≡ map w i.pins =
    map-agree (put w i.target bit) w i.pins (λ c h. elim (cell_cases c i.target) [
      | inl e ↦ absurd (apart (subst (Contains i.pins) e h))
      | inr fails ↦ put-other w i.target bit c fails
    ]) in
    put-at w i.target bit ∙ e ∙ ap (value i.kind) (sym same)

-- a known literal that some row has is forced
pub known_forced : (known : Lit → Bool) (i : Instance) (l : Lit) → Contains (cells_of i) l.cell → known l ≡ true → (v : Valuation) → IsRow i v → Has v l → Forces i (passing known) l
known_forced known i l on_cells is_known v is_row has = record {
  on_cells = on_cells;
  part = l ∷ [];
  part_known = All-one (passing known) l is_known;
  part_on_cells = All-one (λ x. Contains (cells_of i) x.cell) l on_cells;
  row = v;
  is_row = is_row;
  row_agrees = All-one (Has v) l has;
  forced = λ w w_is_row agrees. All-head (Has w) l [] agrees;
}
