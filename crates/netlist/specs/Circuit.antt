-- What contracts see of a netlist, and the netlist that statements stand for.
use Rattle.std.specs.Prelude.{ℕ, ◌≡◌, ◌≢◌, ◌<◌, ◌≤◌, ◌↔◌, List, length, Some}
use Rattle.std.specs.List.{All, AllPairs, Contains, slice_get}
use Rattle.sr_model.specs.Limits.{max_signals, max_pins}
use Rattle.sr_model.specs.declared.cells.Sig.{Sig}
use Rattle.sr_model.specs.Declaration.{Declaration}
use Rattle.sr_model.specs.Netlist.{Driver, Input, Unrolled}
use Rattle.netlist.specs.Numbering as numbering
use Rattle.netlist.specs.Numbering.{IsSignalName}
use Rattle.netlist.specs.Checks.{IsAccepted}
use Rattle.netlist.specs.Loops.{HasNoLoop}
use Rattle.netlist.specs.Wiring.{driver_at, pin_sum, IsWired, HasPinCounts}

-- the names and the drivers of the signals by number, and the signals that are inputs and outputs, in order
pub record Circuit : Type 0 where
  pub names : List (List ℕ)
  pub drivers : List Driver
  pub inputs : List Sig
  pub outputs : List Sig

-- the netlist over so many cycles
abbrev pub unrolled_over : Circuit → ℕ → Unrolled
unrolled_over c cycles = record { drivers = c.drivers; cycles = cycles }

-- what every netlist keeps
pub record IsCircuit (c : Circuit) : Type 0 where
  pub one_name_each : length c.names ≡ length c.drivers
  pub are_names : All IsSignalName c.names
  pub distinct : (i j : ℕ) (name : List ℕ) → slice_get c.names i ≡ Some name → slice_get c.names j ≡ Some name → i ≡ j
  pub few_signals : length c.drivers ≤ max_signals
  pub few_pins : pin_sum c.drivers ≤ max_pins
  pub wired : IsWired c.drivers
  pub pin_counts : HasPinCounts c.drivers
  pub no_loop : HasNoLoop c.drivers
  pub inputs : (s : Sig) → Contains c.inputs s ↔ ((s.0 < length c.drivers) × (driver_at c.drivers s.0 ≡ Input))
  pub inputs_once : AllPairs (λ a b. a ≢ b) c.inputs
  pub outputs : All (λ s. s.0 < length c.drivers) c.outputs
  pub outputs_once : AllPairs (λ a b. a ≢ b) c.outputs

-- the netlist of the statements, by the first mentions of names
abbrev pub circuit_of : List Declaration → Circuit
circuit_of ds = record {
  names = numbering.names_of ds;
  drivers = numbering.drivers_of ds;
  inputs = numbering.inputs_of ds;
  outputs = numbering.outputs_of ds;
}

-- the statements stand for a netlist: they keep the four rules, and no gates drive each other in a loop
abbrev pub IsNetlist : List Declaration → Type 0
IsNetlist ds = IsAccepted ds × HasNoLoop (numbering.drivers_of ds)
