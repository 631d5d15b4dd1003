use Rattle.std.proofs.Common.{inl, inr}
use Rattle.cycle_sim.proofs.FrameSteps.{not-gate}
use Rattle.cycle_sim.proofs.cycles.next_cycle.Goals as goal

pub returns-clause-all : goal.returns-clause-all
returns-clause-all c =
    c.set_gates.ensures.all c.args.s.now c.args.cycle c.requires.cycle (λ v sim s within other.
    elim (not-gate c.args.n.now c.requires.circuit s within other) [
      | inl input ↦ c.set_flip_flops.ensures.kept c.args.s.now c.args.cycle c.requires.state v sim s (c.set_inputs.ensures.inputs v sim s within input)
      | inr flip_flop ↦ c.set_flip_flops.ensures.flip_flops c.args.s.now c.args.cycle c.requires.state v sim s within flip_flop
    ])

pub returns-clause-state : goal.returns-clause-state
returns-clause-state c = c.next_state.ensures.state c.args.s.now c.args.cycle (returns-clause-all c)
