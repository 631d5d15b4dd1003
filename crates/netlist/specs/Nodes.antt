-- How the nodes of the flat arrays stand for drivers.
use Rattle.std.specs.Prelude.{ℕ, ◌≡◌, ◌+◌, ◌≤◌, List, map, Option, Some, None, take, drop}
use Rattle.sr_model.specs.declared.gates.Kind.{Kind}
use Rattle.sr_model.specs.declared.cells.Sig.{Sig}
use Rattle.sr_model.specs.Netlist.{Driver, Input, Driven}
use Rattle.netlist.specs.declared.wiring.Node.{Node}

-- with no kind an input, else the kind with these pins
abbrev pub driver_by : Option Kind → List Sig → Driver
driver_by None pins = Input
driver_by (Some kind) pins = Driven kind pins

-- what a node says with the flat list of pins
abbrev pub driver_of : List Sig → Node → Driver
driver_of pins node = driver_by node.kind (take node.pin_count (drop node.first_pin pins))

-- its pins lie in a flat list of so many, and an input has none
abbrev pub IsNodeWithin : ℕ → Node → Type 0
IsNodeWithin pin_total node = (node.first_pin + node.pin_count ≤ pin_total) × (node.kind ≡ None → node.pin_count ≡ 0)

-- the drivers in order of their nodes
abbrev pub drivers_from : List Sig → List Node → List Driver
drivers_from pins nodes = map (driver_of pins) nodes
