use Rattle.std.proofs.Common.{◌≤◌, length, sym, subst, ◌∙◌}
use Rattle.sr_model.specs.Limits.{block_count, max_blocks}
use Rattle.cycle_sim.specs.BitTable.{bit_in}
use Rattle.cycle_sim.specs.Simulation.{bits_of}
use Rattle.restore_program.proofs.Rankings.{ranking_signals, ranking_text}
use Rattle.restore_program.proofs.select.picks_of.Goals as goal

pub select-requires-clause-cells : goal.select-requires-clause-cells
select-requires-clause-cells g c κs within =
    subst (λ n. block_count (length c.args.n.now.drivers) n ≤ max_blocks) (sym (c.in_ok-execution.ensures.cycles ∙ c.in_ok-inputs.ensures.cycles)) c.requires.cells

pub returns-clause-text : goal.returns-clause-text
returns-clause-text g c =
    ranking_text c.args.n.now c.args.width c.args.seed c.args.cycles c.in_ok-inputs.inputs.count c.in_ok-execution.execution.count (bit_in c.in_ok-inputs.inputs) (bits_of c.in_ok-execution.execution) c.select.result
    c.in_ok-inputs.ensures.cycles (c.in_ok-execution.ensures.cycles ∙ c.in_ok-inputs.ensures.cycles) c.in_ok-inputs.ensures.drawn c.in_ok-execution.ensures.exists c.select.ensures.width c.select.ensures.picks

pub returns-clause-signals : goal.returns-clause-signals
returns-clause-signals g c =
    ranking_signals c.args.n.now c.args.width c.args.seed c.args.cycles c.in_ok-inputs.inputs.count c.in_ok-execution.execution.count (bit_in c.in_ok-inputs.inputs) (bits_of c.in_ok-execution.execution) c.select.result c.select.ensures.picks
