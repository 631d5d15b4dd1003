-- What is known from the trace of a simulated execution.
use Rattle.sr_model.specs.Closure.{passing}
use Rattle.sr_model.specs.Dump.{dump_has}
use Rattle.sr_model.proofs.lemmas.Laws.{no_execution_has_both}
use Rattle.netlist.specs.Circuit.{unrolled_over}
use Rattle.cycle_sim.specs.Simulation.{traced_rows}
use Rattle.cycle_sim.proofs.lemmas.Laws.{simulation_has_what_follows, trace_matches}
use Rattle.restore_program.specs.AnswerLaws.{TraceIsSimulated}

pub trace_is_simulated : TraceIsSimulated
trace_is_simulated c cycles given v sigs sim = (
  simulation_has_what_follows c cycles given v sim (dump_has (traced_rows v cycles sigs)) (trace_matches v cycles sigs),
  λ cell both. no_execution_has_both (unrolled_over c cycles) (passing (dump_has (traced_rows v cycles sigs))) cell both v sim.execution (trace_matches v cycles sigs),
)
