use Rattle.std.proofs.Common.{◌≡◌, ◌<◌, length, take, sym, subst, rules}
use Rattle.std.specs.Prelude.{All}
use Rattle.std.proofs.lemmas.Result.{IfOk-weaker}
use Rattle.sr_model.specs.Dump.{Row}
use Rattle.cycle_sim.specs.BitTable.{bit_in}
use Rattle.restore_program.specs.Loading.{load_cycles, load_traced}
use Rattle.restore_program.proofs.LoadCounts.{first_once, first_within}
use Rattle.restore_program.proofs.OneRun.{drawn_rows}
use Rattle.restore_program.proofs.TraceSignals.{rows_within}
use Rattle.restore_program.proofs.load.drawn_trace.Goals as goal

pub simulate_trace-requires-clause-signals : goal.simulate_trace-requires-clause-signals
simulate_trace-requires-clause-signals c = first_within c.args.n.now c.max-count.result c.flip_flops-flip_flops.result.now c.flip_flops-flip_flops.ensures

pub simulate_trace-requires-clause-once : goal.simulate_trace-requires-clause-once
simulate_trace-requires-clause-once c = first_once c.args.n.now c.max-count.result c.flip_flops-flip_flops.result.now c.flip_flops-flip_flops.ensures

pub returns-clause-signals : goal.returns-clause-signals
returns-clause-signals c =
    IfOk-weaker c.simulate_trace.result _ _ (λ d traced.
    subst (All (λ (row : Row). row.sig.0 < length c.args.n.now.drivers)) (sym traced.2)
    (rows_within traced.0 c.in_ok-inputs.inputs.count (length c.args.n.now.drivers) _ (first_within c.args.n.now c.max-count.result c.flip_flops-flip_flops.result.now c.flip_flops-flip_flops.ensures))) c.simulate_trace.ensures.rows

pub returns-clause-rows : goal.returns-clause-rows
returns-clause-rows c =
    let first : take c.max-count.result c.flip_flops-flip_flops.result.now ≡ load_traced c.args.n.now = search rules in
    IfOk-weaker c.simulate_trace.result _ _ (λ d traced.
    drawn_rows c.args.n.now c.args.number load_cycles c.in_ok-inputs.inputs.count (bit_in c.in_ok-inputs.inputs) _ (load_traced c.args.n.now) d.rows c.in_ok-inputs.ensures.cycles c.in_ok-inputs.ensures.drawn first traced)
    c.simulate_trace.ensures.rows
