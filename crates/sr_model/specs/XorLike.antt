-- The gates whose target has the parity of their pins, or the other bit: XOR and XNOR.
use Rattle.std.specs.Prelude.{◌≡◌, Bool, true, false, not, List, [], ◌∷◌, map}
use Rattle.sr_model.specs.declared.cells.Cell.{Cell}
use Rattle.sr_model.specs.Gate.{value}
use Rattle.sr_model.specs.Netlist.{Instance, Valuation, cell_eq}

-- the sum of two bits without carry
abbrev pub plus : Bool → Bool → Bool
plus true b = not b
plus false b = b

-- whether an odd number of cells has 1, a repeated cell counting each time
abbrev pub parity : Valuation → List Cell → Bool
parity v [] = false
parity v (c ∷ cs) = plus (v c) (parity v cs)

-- whether the cell stands an odd number of times
abbrev pub is_odd : Cell → List Cell → Bool
is_odd c cs = parity (λ d. cell_eq d c) cs

-- the gate's meaning: the parity of all its cells is `inverted`
abbrev pub IsXorLike : Bool → Instance → Type 0
IsXorLike inverted i = (w : Valuation) → value i.kind (map w i.pins) ≡ plus inverted (parity w i.pins)
