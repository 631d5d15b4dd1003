use Rattle.std.proofs.Common.{length, sym, ap, ◌∙◌}
use Rattle.cycle_sim.specs.Frames.{bit_by_count, in_frame}
use Rattle.cycle_sim.proofs.GateOutputs.{count-gives}
use Rattle.cycle_sim.proofs.gates.wide_bit.Goals as goal

pub returns-in-Some : goal.returns-in-Some
returns-in-Some c =
    c.bit_by_count.ensures ∙ ap (λ family. bit_by_count family c.ones_among-ones.result (length c.pins_of-pins.result.now)) c.family.ensures
    ∙ count-gives c.args.n.now c.requires.circuit c.args.target.0 c.in-Some.kind (in_frame c.args.frame.now) c.ones_among-ones.result c.pins_of-pins.result.now (sym c.kind_of.ensures ∙ c.in-Some.is) c.pins_of-pins.ensures c.ones_among-ones.ensures
