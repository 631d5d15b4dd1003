use Rattle.std.proofs.Common.{sym, ◌∙◌}
use Rattle.cycle_sim.proofs.GateOutputs.{lone-gate, pair-gate, pair-count}
use Rattle.cycle_sim.proofs.gates.gate_of.Goals as goal

pub pair_outputs-requires : goal.pair_outputs-requires
pair_outputs-requires c =
    pair-count c.args.n.now c.requires.circuit c.args.target c.requires.target c.requires.driven c.in-Some.kind (sym c.kind_of.ensures ∙ c.in-Some.is) c.pins_of-pins.result.now c.pins_of-pins.ensures c.in-2.is

pub returns-in-1-clause-gate : goal.returns-in-1-clause-gate
returns-in-1-clause-gate c =
    lone-gate c.args.n.now c.requires.circuit c.args.target c.requires.target c.requires.driven c.in-Some.kind (sym c.kind_of.ensures ∙ c.in-Some.is) c.pins_of-pins.result.now c.pins_of-pins.ensures
    c.lone_outputs.result c.in-1.is c.lone_outputs.ensures

pub returns-in-2-clause-gate : goal.returns-in-2-clause-gate
returns-in-2-clause-gate c =
    pair-gate c.args.n.now c.requires.circuit c.args.target c.requires.target c.requires.driven c.in-Some.kind (sym c.kind_of.ensures ∙ c.in-Some.is) c.pins_of-pins.result.now c.pins_of-pins.ensures
    c.pair_outputs.result c.in-2.is c.pair_outputs.ensures
