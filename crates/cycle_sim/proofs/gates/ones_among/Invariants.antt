use Rattle.std.proofs.Common.{◌≡◌, take}
use Rattle.std.specs.List.{count_by}
use Rattle.cycle_sim.specs.Frames.{in_frame}
use Rattle.cycle_sim.proofs.gates.ones_among.Given as goal

abbrev pub invariant-loop-pin : goal.invariant-loop-pin
invariant-loop-pin l = l.ones ≡ count_by (in_frame l.frame) (take l.pin-index l.pins)
