use Rattle.sr_model.specs.Declaration.{declared}
use Rattle.netlist.proofs.Driving.{IsDrivenSoFar}
use Rattle.netlist.proofs.numbers.drive.Given as goal

abbrev pub invariant-loop-i : goal.invariant-loop-i
invariant-loop-i l = IsDrivenSoFar (declared l.s) l.names l.i l.nodes.items l.first_pin
