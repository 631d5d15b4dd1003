-- What is written of a simulation's trace.
use Rattle.std.specs.Prelude.{ℕ, ◌≡◌, ◌≢◌, ◌<◌, ◌≤◌, ◌==◌, List, ◌∷◌, ◌++◌, length, map, Some, Contains}
use Rattle.std.specs.List.{AllPairs, slice_get, slice_split}
use Rattle.sr_model.specs.declared.cells.Sig.{Sig}
use Rattle.sr_model.specs.Netlist.{Valuation}
use Rattle.netlist.specs.Circuit.{Circuit}
use Rattle.sr_model.specs.Limits.{block_count, max_blocks}
use Rattle.dump_reader.specs.Print.{printed}
use Rattle.cycle_sim.specs.Drawing.{drawn_bit}
use Rattle.cycle_sim.specs.Simulation.{IsSimulated, traced_rows}
use Rattle.restore_program.specs.declared.status.Status.{Status}
use Rattle.restore_program.specs.declared.status.Status.TheVariants as statuses
use Rattle.report.specs.Refusals.{unknown_trace_line, trace_twice_line, many_cells_line}

-- the names of a list, which commas part
abbrev pub names_in : List ℕ → List (List ℕ)
names_in list = slice_split (λ b. b == 44) list

-- the names are those of these signals, in their order, and none stands twice
pub record AreNamed (c : Circuit) (names : List (List ℕ)) (sigs : List Sig) : Type 0 where
  pub each : map (λ (sig : Sig). slice_get c.names sig.0) sigs ≡ map Some names
  pub once : AllPairs (λ a b. a ≢ b) names

-- behind names of signals, each once, stands this one
pub record StandsNext (c : Circuit) (names : List (List ℕ)) (name : List ℕ) (before : List (List ℕ)) : Type 0 where
  pub sigs : List Sig
  pub named : AreNamed c before sigs
  pub after : List (List ℕ)
  pub whole : names ≡ before ++ name ∷ after

-- the first of the names that is wrong is that of no signal
abbrev pub IsUnknownFirst : Circuit → List (List ℕ) → List ℕ → Type 0
IsUnknownFirst c names name = (before : List (List ℕ)) × StandsNext c names name before × ¬ Contains c.names name

-- it stands among those before it
abbrev pub IsTwiceFirst : Circuit → List (List ℕ) → List ℕ → Type 0
IsTwiceFirst c names name = (before : List (List ℕ)) × StandsNext c names name before × Contains before name

-- a simulated execution over so many cycles, whose inputs have the bits that are drawn from the seed
abbrev pub IsDrawnRun : Circuit → ℕ → ℕ → Valuation → Type 0
IsDrawnRun c seed cycles v = IsSimulated c cycles (drawn_bit seed (length c.inputs)) v

-- the text of the dump of these signals in the drawn run
abbrev pub IsTraceText : Circuit → ℕ → ℕ → List Sig → List ℕ → Type 0
IsTraceText c seed cycles sigs text = (v : Valuation) × IsDrawnRun c seed cycles v × (text ≡ printed c.names (record { cycles = cycles; rows = traced_rows v cycles sigs }))

-- the first of the names that is wrong
pub data RefusedNames (c : Circuit) (names : List (List ℕ)) : List ℕ → Status → Type 0 where
  unknown_name : (name : List ℕ) → IsUnknownFirst c names name → RefusedNames c names (unknown_trace_line name) statuses.Words
  name_twice : (name : List ℕ) → IsTwiceFirst c names name → RefusedNames c names (trace_twice_line name) statuses.Words

-- by the words there are too many cells of so many signals
pub data RefusedCells (signals cycles : ℕ) : List ℕ → Status → Type 0 where
  many_cells : max_blocks < block_count signals cycles → RefusedCells signals cycles (many_cells_line (block_count signals cycles)) statuses.Dump

-- on a netlist, so many cycles, a seed and a list of names
pub data OnTrace (c : Circuit) (cycles seed : ℕ) (list : List ℕ) : List ℕ → Status → Type 0 where
  refused_names : (text : List ℕ) (status : Status) → RefusedNames c (names_in list) text status → OnTrace c cycles seed list text status
  refused_cells : (sigs : List Sig) (text : List ℕ) (status : Status) → AreNamed c (names_in list) sigs → RefusedCells (length c.drivers) cycles text status → OnTrace c cycles seed list text status
  traced : (sigs : List Sig) (text : List ℕ) → AreNamed c (names_in list) sigs → block_count (length c.drivers) cycles ≤ max_blocks → IsTraceText c seed cycles sigs text
      → OnTrace c cycles seed list text statuses.Done
