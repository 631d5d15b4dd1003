-- What is kept of the statements so far of the signals that they drive.
use Rattle.std.specs.Prelude.{ℕ, ◌≡◌, ◌<◌, List, map, length, Option, Some, None, option_map, slice_get, IfSome}
use Rattle.std.specs.List.{All, find}
use Rattle.sr_model.specs.declared.cells.Sig.{Sig}
use Rattle.sr_model.specs.declared.gates.Kind.{Kind}
use Rattle.sr_model.specs.Declaration.{Declaration, InputNamed, OutputNamed, DriverNamed}
use Rattle.sr_model.specs.Netlist.{Driver}
use Rattle.netlist.specs.declared.wiring.Node.{Node}
use Rattle.netlist.specs.declared.checks.NetRefusal.{NetRefusal}
use Rattle.netlist.specs.declared.checks.NetRefusal.TheVariants.{NoDriver, NoMemory}
use Rattle.netlist.specs.Numbering.{drives, pin_names, stated_driver}
use Rattle.netlist.specs.Nodes.{driver_of, IsNodeWithin}

-- the kind of gate or flip-flop that a statement states
abbrev pub kind_stated : Declaration → Option Kind
kind_stated (InputNamed name) = None
kind_stated (OutputNamed name) = None
kind_stated (DriverNamed target kind pins) = Some kind

-- the node of a statement whose pins begin at a place
abbrev pub node_at : ℕ → Declaration → Node
node_at first_pin d = record { kind = kind_stated d; first_pin = first_pin; pin_count = length (pin_names d) }

-- the driver of a name, if some of the statements drives it
abbrev pub driver_among : (List ℕ → Sig) → List Declaration → List ℕ → Option Driver
driver_among sig ds name = option_map (stated_driver sig) (find (drives name) ds)

-- the nodes hold the drivers of these names by these statements
abbrev pub HoldsDrivers : List Sig → (List ℕ → Sig) → List (List ℕ) → List Declaration → List (Option Node) → Type 0
HoldsDrivers pins sig names ds nodes = map (option_map (driver_of pins)) nodes ≡ map (driver_among sig ds) names

-- the pins of each node lie among the first so many
abbrev pub AreWithin : ℕ → List (Option Node) → Type 0
AreWithin pin_count nodes = All (λ node. IfSome node (IsNodeWithin pin_count)) nodes

-- the name is the first of those without a node
pub record IsFirstWithout (nodes : List (Option Node)) (names : List (List ℕ)) (name : List ℕ) : Type 0 where
  pub number : ℕ
  pub named : slice_get names number ≡ Some name
  pub without : slice_get nodes number ≡ Some None
  pub before : (k : ℕ) → k < number → (node : Node) × (slice_get nodes k ≡ Some (Some node))

-- a name without a node is refused, and the want of memory
abbrev pub IsLack : List (Option Node) → List (List ℕ) → NetRefusal → Type 0
IsLack nodes names (NoDriver name) = IsFirstWithout nodes names name.items
IsLack nodes names NoMemory = Unit {0}
IsLack nodes names _ = ⊥
