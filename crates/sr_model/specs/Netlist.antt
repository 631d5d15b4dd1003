-- A netlist over a number of cycles: its instances, their rows, and its executions.
use Rattle.std.specs.Prelude.{ℕ, ◌≡◌, ◌+◌, ◌==◌, ◌&&◌, Bool, List, ◌∷◌, map, Option, Some, None, if◌then◌else◌, nat_lt, slice_index_or}
use Rattle.std.specs.List.{All}
use Rattle.sr_model.specs.declared.gates.Kind.{Kind}
use Rattle.sr_model.specs.declared.cells.Sig.{Sig}
use Rattle.sr_model.specs.declared.cells.Cell.{Cell}
use Rattle.sr_model.specs.declared.cells.Lit.{Lit}
use Rattle.sr_model.specs.declared.cells.Place.{Place}
use Rattle.sr_model.specs.Gate.{value, is_flip_flop_kind}

-- what drives a signal: an input of the chip, or a gate or flip-flop with these pins
pub data Driver : Type 0 where
  Input : Driver
  Driven : Kind → List Sig → Driver

-- a netlist, as the driver of each signal by its number, over a number of cycles
pub record Unrolled : Type 0 where
  pub drivers : List Driver
  pub cycles : ℕ

abbrev pub cell_at : ℕ → Sig → Cell
cell_at cycle sig = record { cycle = cycle; sig = sig }

-- whether the two are one cell
abbrev pub cell_eq : Cell → Cell → Bool
cell_eq a b = (a.cycle == b.cycle) && (a.sig.0 == b.sig.0)

-- how many cycles the target's cell is after the pins'
abbrev pub delay : Kind → ℕ
delay kind = if is_flip_flop_kind kind then 1 else 0

-- one gate or flip-flop in one cycle: the target's cell, and the pins' as often as they stand
pub record Instance : Type 0 where
  pub kind : Kind
  pub target : Cell
  pub pins : List Cell

abbrev pub cells_of : Instance → List Cell
cells_of i = i.target ∷ i.pins

abbrev pub instance_from : ℕ → Driver → Place → Option Instance
instance_from cycles Input p = None
instance_from cycles (Driven kind pins) p =
    let later = p.cycle + delay kind in
    if nat_lt later cycles
    then Some (record { kind = kind; target = cell_at later p.target; pins = map (cell_at p.cycle) pins })
    else None

-- the instance at a place, if there is one
abbrev pub instance_at : Unrolled → Place → Option Instance
instance_at u p = instance_from u.cycles (slice_index_or u.drivers p.target.0 Input) p

-- a bit for each cell
abbrev pub Valuation : Type 0
Valuation = Cell → Bool

-- the bits of the instance's cells are one of its rows
abbrev pub IsRow : Instance → Valuation → Type 0
IsRow i v = v i.target ≡ value i.kind (map v i.pins)

-- Cycle 0 of a flip-flop is free: no instance has it as a target.
abbrev pub IsExecution : Unrolled → Valuation → Type 0
IsExecution u v = (p : Place) (i : Instance) → instance_at u p ≡ Some i → IsRow i v

-- the literal is one of the valuation's
abbrev pub Has : Valuation → Lit → Type 0
Has v l = v l.cell ≡ l.bit

abbrev pub Agrees : Valuation → List Lit → Type 0
Agrees v part = All (Has v) part
