use Rattle.cycle_sim.proofs.Simulations.{simulation_exists, simulations_agree, simulation_has_what_follows, trace_matches, traces_agree}
use Rattle.cycle_sim.proofs.laws.simulation_laws.Goals as goal

pub returns-clause-exists : goal.returns-clause-exists
returns-clause-exists c = simulation_exists

pub returns-clause-one : goal.returns-clause-one
returns-clause-one c = simulations_agree

pub returns-clause-follows : goal.returns-clause-follows
returns-clause-follows c = simulation_has_what_follows

pub returns-clause-trace : goal.returns-clause-trace
returns-clause-trace c = trace_matches

pub returns-clause-one_trace : goal.returns-clause-one_trace
returns-clause-one_trace c = traces_agree
