-- The gates that only ask whether all pins have one bit: AND, NAND, OR, NOR, NOT and BUF, and the flip-flop.
use Rattle.std.specs.Prelude.{◌≡◌, Bool, not, List, map, if◌then◌else◌}
use Rattle.std.specs.List.{list_all}
use mathlib.Core.Bool.{beq}
use Rattle.sr_model.specs.declared.cells.Cell.{Cell}
use Rattle.sr_model.specs.Gate.{value}
use Rattle.sr_model.specs.Netlist.{Instance, Valuation}

-- each pin has the bit p
abbrev pub all_have : Bool → Valuation → List Cell → Bool
all_have p w pins = list_all (λ c. beq (w c) p) pins

-- the target has the bit t where each pin has p, and the other bit elsewhere
abbrev pub IsAndLike : Bool → Bool → Instance → Type 0
IsAndLike p t i = (w : Valuation) → value i.kind (map w i.pins) ≡ (if all_have p w i.pins then t else not t)
