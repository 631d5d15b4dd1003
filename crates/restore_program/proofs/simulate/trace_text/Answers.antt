use Rattle.std.proofs.Common.{◌≡◌, ◌<◌, length, ap, refl, sym, subst, ◌∙◌}
use Rattle.std.specs.Prelude.{All}
use Rattle.std.proofs.lemmas.Result.{IfOk-weaker}
use Rattle.sr_model.specs.Dump.{Row}
use Rattle.dump_reader.specs.Print.{printed}
use Rattle.cycle_sim.specs.BitTable.{bit_in}
use Rattle.restore_program.proofs.OneRun.{drawn_rows}
use Rattle.restore_program.proofs.TraceSignals.{signals_within, signals_once, rows_within}
use Rattle.restore_program.proofs.simulate.trace_text.Goals as goal

pub simulate_trace-requires-clause-signals : goal.simulate_trace-requires-clause-signals
simulate_trace-requires-clause-signals c = signals_within c.args.n.now c.requires.circuit c.requires.named.0 c.args.sigs.now c.requires.named.1

pub simulate_trace-requires-clause-once : goal.simulate_trace-requires-clause-once
simulate_trace-requires-clause-once c = signals_once c.args.n.now c.requires.named.0 c.args.sigs.now c.requires.named.1

pub print_dump-requires : goal.print_dump-requires
print_dump-requires c =
    let rows = c.in_ok-dump.ensures.rows in
    subst (λ rs. All (λ (row : Row). row.sig.0 < length c.args.n.now.drivers) rs) (sym rows.2)
    (rows_within rows.0 c.in_ok-inputs.inputs.count (length c.args.n.now.drivers) c.args.sigs.now
    (signals_within c.args.n.now c.requires.circuit c.requires.named.0 c.args.sigs.now c.requires.named.1))

pub returns : goal.returns
returns c =
    let run = drawn_rows c.args.n.now c.args.seed c.args.cycles c.in_ok-inputs.inputs.count (bit_in c.in_ok-inputs.inputs) c.args.sigs.now c.args.sigs.now c.in_ok-dump.dump.rows c.in_ok-inputs.ensures.cycles c.in_ok-inputs.ensures.drawn refl c.in_ok-dump.ensures.rows in
    IfOk-weaker c.print_dump.result (λ text. text.items ≡ printed c.args.n.now.names c.in_ok-dump.dump) _ (λ text same. (
      run.0,
      run.1,
      same ∙ ap (λ n. printed c.args.n.now.names (record { cycles = n; rows = c.in_ok-dump.dump.rows })) (c.in_ok-dump.ensures.cycles ∙ c.in_ok-inputs.ensures.cycles)
          ∙ ap (λ rs. printed c.args.n.now.names (record { cycles = c.args.cycles; rows = rs })) run.2,
    )) c.print_dump.ensures
