use Rattle.std.proofs.Common.{◌≡◌, ◌+◌, map, take, List, sym, subst}
use Rattle.std.specs.List.{All}
use Rattle.cycle_sim.specs.declared.gates.Gate.{Gate}
use Rattle.cycle_sim.specs.Frames.{IsGate}
use Rattle.cycle_sim.proofs.GateOutputs.{order-within, gates-more}
use Rattle.cycle_sim.proofs.gates.gates_in_order.Goals as goal

pub gate_of-requires-clause-target : goal.gate_of-requires-clause-target
gate_of-requires-clause-target c = order-within c.args.n.now c.order-order.result.now c.order-order.ensures c.loop-target.target-index _ c.loop-target-test.true

pub loop-target-preserved : goal.loop-target-preserved
loop-target-preserved c =
    subst (λ (gates : List Gate). (map (λ (g : Gate). g.target) gates ≡ take (c.loop-target.target-index + 1) c.order-order.result.now) × All (IsGate c.args.n.now) gates) (sym c.in_ok-push.ensures.ok)
    (gates-more c.args.n.now c.order-order.result.now c.order-order.ensures c.loop-target.target-index _ c.loop-target-test.true c.loop-target.gates.items c.gate_of.result
    c.gate_of.ensures.target c.gate_of.ensures.gate c.loop-target.invariant)
