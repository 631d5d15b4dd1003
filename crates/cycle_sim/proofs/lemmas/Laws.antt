-- The laws, as proofs above cite them.
pub use Rattle.cycle_sim.proofs.Simulations.{simulation_exists, simulations_agree, simulation_has_what_follows, trace_matches, traces_agree}
pub use Rattle.cycle_sim.proofs.LoadNets.{loads_are_netlists}
pub use Rattle.cycle_sim.proofs.LoadSteps.{lines_declare}
