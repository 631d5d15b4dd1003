-- What is written of the netlist that is drawn from a number.
use Rattle.std.specs.Prelude.{ℕ, ◌≡◌, ◌/◌, max, Bool, List, length, take}
use Rattle.sr_model.specs.declared.cells.Lit.{Lit}
use Rattle.sr_model.specs.declared.cells.Sig.{Sig}
use Rattle.sr_model.specs.Closure.{SameLits, passing}
use Rattle.sr_model.specs.Dump.{Known, Row, dump_has}
use Rattle.sr_model.specs.Netlist.{Valuation}
use Rattle.netlist.specs.Circuit.{Circuit, circuit_of, unrolled_over}
use Rattle.netlist.specs.Wiring.{flip_flops}
use Rattle.ratio.specs.Ratio.{Counts}
use Rattle.cycle_sim.specs.Load.{IsLoadSize, load_statements}
use Rattle.cycle_sim.specs.Simulation.{traced_rows}
use Rattle.report.specs.Load.{load_line}
use Rattle.known_planes.specs.Counts.{known_count}
use Rattle.restore_program.specs.Tracing.{IsDrawnRun}

-- the netlist
abbrev pub load_circuit : ℕ → ℕ → Circuit
load_circuit number signals = circuit_of (load_statements number signals)

-- how many cycles are simulated
abbrev pub load_cycles : ℕ
load_cycles = 256

-- the first quarter of the flip-flops in ascending number, at least one
abbrev pub load_traced : Circuit → List Sig
load_traced c = take (max 1 (length (flip_flops c.drivers) / 4)) (flip_flops c.drivers)

-- the rows are the trace of these flip-flops in the run that is drawn from the number
abbrev pub IsLoadTrace : Circuit → ℕ → List Row → Type 0
IsLoadTrace c number rows = (v : Valuation) × IsDrawnRun c number load_cycles v × (rows ≡ traced_rows v load_cycles (load_traced c))

-- how many flip-flop cells these rows give, and how many are known from them
pub record AreCountsOf (c : Circuit) (rows : List Row) (counts : Counts) : Type 0 where
  pub known : Lit → Bool
  pub is_known : SameLits (passing known) (Known (unrolled_over c load_cycles) rows)
  pub known_is : counts.known ≡ known_count c load_cycles known
  pub traced_is : counts.traced ≡ known_count c load_cycles (dump_has rows)

-- the size is allowed, and the text is the line of the netlist's flip-flops and of what is known from a trace of it
pub record IsLoadText (number signals : ℕ) (text : List ℕ) : Type 0 where
  pub size : IsLoadSize signals
  pub rows : List Row
  pub trace : IsLoadTrace (load_circuit number signals) number rows
  pub counts : Counts
  pub counted : AreCountsOf (load_circuit number signals) rows counts
  pub text_is : text ≡ load_line number signals (length (flip_flops (load_circuit number signals).drivers)) counts
