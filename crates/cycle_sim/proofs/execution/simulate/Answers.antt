use Rattle.std.proofs.Common.{◌<◌, length, subst, sym, ◌∙◌}
use Rattle.std.specs.List.{All}
use Rattle.sr_model.specs.declared.cells.Sig.{Sig}
use Rattle.netlist.proofs.lemmas.Signals.{signals_within}
use Rattle.cycle_sim.specs.BitTable.{bit_in}
use Rattle.cycle_sim.specs.Simulation.{bits_of}
use Rattle.cycle_sim.proofs.Existing.{signals-size, some-cycle, bits-agree, bits-simulated}
use Rattle.cycle_sim.proofs.Simulations.{simulation_has_what_follows}
use Rattle.cycle_sim.proofs.execution.simulate.Goals as goal

pub simulated_bits-requires-clause-kept : goal.simulated_bits-requires-clause-kept
simulated_bits-requires-clause-kept c =
    subst (All (λ (s : Sig). s.0 < length c.args.n.now.drivers)) (sym (c.as_slice.ensures ∙ c.in_ok-signals.ensures)) (signals_within (length c.args.n.now.drivers))

pub returns-clause-signals : goal.returns-clause-signals
returns-clause-signals c = c.in_ok-bits.ensures.width ∙ signals-size (length c.args.n.now.drivers) c.as_slice.result.now (c.as_slice.ensures ∙ c.in_ok-signals.ensures)

pub returns-clause-exists : goal.returns-clause-exists
returns-clause-exists c =
    bits-simulated c.args.n.now c.in_ok-bits.ensures.circuit.0 c.args.s.now.count (bit_in c.args.s.now) c.in_ok-bits.bits (some-cycle c.in_ok-bits.bits.count c.args.s.now.count c.in_ok-bits.ensures.count c.in_ok-bits.ensures.circuit.1)
    c.in_ok-bits.ensures.count c.as_slice.result.now (c.as_slice.ensures ∙ c.in_ok-signals.ensures) c.in_ok-bits.ensures.bits

pub returns-clause-one : goal.returns-clause-one
returns-clause-one c =
    bits-agree c.args.n.now c.in_ok-bits.ensures.circuit.0 c.args.s.now.count (bit_in c.args.s.now) c.in_ok-bits.bits (some-cycle c.in_ok-bits.bits.count c.args.s.now.count c.in_ok-bits.ensures.count c.in_ok-bits.ensures.circuit.1)
    c.in_ok-bits.ensures.count c.as_slice.result.now (c.as_slice.ensures ∙ c.in_ok-signals.ensures) c.in_ok-bits.ensures.bits

pub returns-clause-follows : goal.returns-clause-follows
returns-clause-follows c = simulation_has_what_follows c.args.n.now c.args.s.now.count (bit_in c.args.s.now) (bits_of c.in_ok-bits.bits) (returns-clause-exists c)
