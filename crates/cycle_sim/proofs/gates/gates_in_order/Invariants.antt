use Rattle.std.proofs.Common.{◌≡◌, take, map}
use Rattle.std.specs.List.{All}
use Rattle.cycle_sim.specs.Frames.{IsGate}
use Rattle.cycle_sim.proofs.gates.gates_in_order.Given as goal

abbrev pub invariant-loop-target : goal.invariant-loop-target
invariant-loop-target l = (map (λ gate. gate.target) l.gates.items ≡ take l.target-index l.order) × All (IsGate l.n) l.gates.items
