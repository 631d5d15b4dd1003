-- The laws of simulated executions, and of load netlists.
use Rattle.std.specs.Prelude.{ℕ, ◌≡◌, ◌<◌, Bool, List, length}
use Rattle.std.specs.List.{All}
use Rattle.sr_model.specs.declared.cells.Sig.{Sig}
use Rattle.sr_model.specs.Netlist.{Valuation}
use Rattle.sr_model.specs.Dump.{Matches}
use Rattle.sr_model.specs.declared.statements.Numbered.{Numbered}
use Rattle.sr_model.specs.Declaration.{Declaration, declared}
use Rattle.sr_model.specs.Room.{WithRoom}
use Rattle.netlist.specs.Circuit.{Circuit, IsCircuit, IsNetlist}
use Rattle.netlist.specs.Numbering.{IsStatement}
use Rattle.cycle_sim.specs.Load.{IsLoadSize, AreOnLines, load_statements}
use Rattle.cycle_sim.specs.Simulation.{IsSimulated, AgreeOnInputs, AgreeOnCells, HasWhatFollows, traced_rows}

-- for each number of cycles and all given bits there is one
abbrev pub SimulationExists : Type 0
SimulationExists = (c : Circuit) → IsCircuit c → (cycles : ℕ) (given : ℕ → ℕ → Bool) → (v : Valuation) × IsSimulated c cycles given v

-- two whose inputs have the same bits over the cycles have the same bits on all cells of these cycles
abbrev pub SimulationsAgree : Type 0
SimulationsAgree =
    (c : Circuit) → IsCircuit c → (cycles : ℕ) (given others : ℕ → ℕ → Bool) → AgreeOnInputs (length c.inputs) cycles given others
    → (v w : Valuation) → IsSimulated c cycles given v → IsSimulated c cycles others w → AgreeOnCells c cycles v w

-- what follows from what is known of one is so in it
abbrev pub SimulationHasWhatFollows : Type 0
SimulationHasWhatFollows = (c : Circuit) (cycles : ℕ) (given : ℕ → ℕ → Bool) (v : Valuation) → IsSimulated c cycles given v → HasWhatFollows c cycles v

-- the traced rows of signals are known of it
abbrev pub TraceMatches : Type 0
TraceMatches = (v : Valuation) (cycles : ℕ) (sigs : List Sig) → Matches v (traced_rows v cycles sigs)

-- the same bits on all cells make the same traced rows
abbrev pub TracesAgree : Type 0
TracesAgree =
    (c : Circuit) (cycles : ℕ) (v w : Valuation) → AgreeOnCells c cycles v w
    → (sigs : List Sig) → All (λ (s : Sig). s.0 < length c.drivers) sigs → traced_rows v cycles sigs ≡ traced_rows w cycles sigs

-- what is drawn from a number is the statements of a netlist
abbrev pub LoadsAreNetlists : Type 0
LoadsAreNetlists = (number signals : ℕ) → IsLoadSize signals → All IsStatement (load_statements number signals) × IsNetlist (load_statements number signals)

-- statements on lines of their own declare what stands there
abbrev pub LinesDeclare : Type 0
LinesDeclare = (ds : List Declaration) (statements : WithRoom Numbered) → AreOnLines ds statements → declared statements ≡ ds
