-- A seed has one run, with one trace.
use Rattle.std.proofs.Common.{ℕ, ◌≡◌, ◌<◌, Bool, List, length, ap, refl, sym, subst, ◌∙◌}
use Rattle.std.specs.List.{All}
use Rattle.sr_model.specs.declared.cells.Sig.{Sig}
use Rattle.sr_model.specs.Netlist.{Valuation, IsExecution}
use Rattle.sr_model.specs.Dump.{Row}
use Rattle.netlist.specs.Circuit.{Circuit, IsCircuit, unrolled_over}
use Rattle.cycle_sim.specs.Drawing.{AreDrawn, drawn_bit}
use Rattle.cycle_sim.specs.Simulation.{IsSimulated, traced_rows}
use Rattle.cycle_sim.proofs.lemmas.Laws.{simulations_agree, traces_agree}
use Rattle.restore_program.specs.Tracing.{IsDrawnRun}

-- an execution with drawn bits on the inputs is the seed's run
pub drawn_run : (c : Circuit) (seed cycles count : ℕ) (given : ℕ → ℕ → Bool) (v : Valuation) → count ≡ cycles → AreDrawn seed (length c.inputs) cycles given → IsSimulated c count given v → IsDrawnRun c seed cycles v
drawn_run c seed cycles count given v same drawn sim = record {
  execution = subst (λ n. IsExecution (unrolled_over c n) v) same sim.execution;
  inputs = λ cycle j early within. sim.inputs cycle j (subst (λ n. cycle < n) (sym same) early) within ∙ drawn cycle j early within;
  start = sim.start;
}

-- and its traced rows are the run's
pub drawn_rows : (c : Circuit) (seed cycles count : ℕ) (given : ℕ → ℕ → Bool) (sigs others : List Sig) (rows : List Row) → count ≡ cycles → AreDrawn seed (length c.inputs) cycles given → sigs ≡ others
    → (v : Valuation) × IsSimulated c count given v × (rows ≡ traced_rows v count sigs) → (v : Valuation) × IsDrawnRun c seed cycles v × (rows ≡ traced_rows v cycles others)
drawn_rows c seed cycles count given sigs others rows same drawn one (v, sim, traced) = (v, drawn_run c seed cycles count given v same drawn sim, traced ∙ ap (λ n. traced_rows v n sigs) same ∙ ap (traced_rows v cycles) one)

-- a seed has one trace
pub one_trace : (c : Circuit) (seed cycles : ℕ) (v w : Valuation) (sigs : List Sig) → IsCircuit c → IsDrawnRun c seed cycles v → IsDrawnRun c seed cycles w → All (λ (s : Sig). s.0 < length c.drivers) sigs
    → traced_rows v cycles sigs ≡ traced_rows w cycles sigs
one_trace c seed cycles v w sigs is first second within =
    traces_agree c cycles v w (simulations_agree c is cycles (drawn_bit seed (length c.inputs)) (drawn_bit seed (length c.inputs)) (λ cycle input early at. refl) v w first second) sigs within
