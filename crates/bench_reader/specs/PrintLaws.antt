-- What reading gives of a printed text.
use Rattle.std.specs.Prelude.{ℕ, ◌≡◌, ◌↔◌, List, map, Contains}
use Rattle.sr_model.specs.Declaration.{Declaration}
use Rattle.sr_model.specs.Netlist.{Driver}
use Rattle.netlist.specs.Checks.{without_lines}
use Rattle.netlist.specs.Circuit.{Circuit, IsCircuit, IsNetlist, circuit_of}
use Rattle.netlist.specs.Numbering.{place_in}
use Rattle.netlist.specs.Wiring.{driver_at, kind_of, pins_of}
use Rattle.bench_reader.specs.Grammar.{Spells}
use Rattle.bench_reader.specs.Printed.{bench_text, name_in}

-- what drives the signal of a name
abbrev pub driver_named : Circuit → List ℕ → Driver
driver_named c name = driver_at c.drivers (place_in c.names name)

-- the names of its pins, from left to right
abbrev pub pins_named : Circuit → List ℕ → List (List ℕ)
pins_named c name = map (name_in c.names) (pins_of (driver_named c name))

-- two netlists have the same names, inputs and outputs, and each name the same kind and pins; the numbers of signals may differ
pub record SameNetlist (a b : Circuit) : Type 0 where
  pub names : (name : List ℕ) → Contains a.names name ↔ Contains b.names name
  pub inputs : map (name_in a.names) a.inputs ≡ map (name_in b.names) b.inputs
  pub outputs : map (name_in a.names) a.outputs ≡ map (name_in b.names) b.outputs
  pub kinds : (name : List ℕ) → Contains a.names name → kind_of (driver_named a name) ≡ kind_of (driver_named b name)
  pub pins : (name : List ℕ) → Contains a.names name → pins_named a name ≡ pins_named b name

-- the text's statements are those of this netlist, and they keep all rules
pub record ReadsAs (text : List ℕ) (c : Circuit) : Type 0 where
  pub stated : List (ℕ × Declaration)
  pub spells : Spells text stated
  pub netlist : IsNetlist (without_lines stated)
  pub same : SameNetlist c (circuit_of (without_lines stated))

-- reading the printed text of a netlist gives that netlist
abbrev pub IsReadBack : Type 0
IsReadBack = (c : Circuit) → IsCircuit c → ReadsAs (bench_text c) c
