use Rattle.std.proofs.Common.{length, take}
use Rattle.netlist.proofs.OddPins.{Toggled}
use Rattle.netlist.proofs.parities.toggle.Given as goal

abbrev pub invariant-loop-pin : goal.invariant-loop-pin
invariant-loop-pin l = Toggled (length l.initial.odd) (take l.pin-index l.pins) l.odd
