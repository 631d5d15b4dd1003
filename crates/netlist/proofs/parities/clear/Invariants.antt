use Rattle.std.proofs.Common.{take}
use Rattle.netlist.proofs.OddPins.{Cleared}
use Rattle.netlist.proofs.parities.clear.Given as goal

abbrev pub invariant-loop-s : goal.invariant-loop-s
invariant-loop-s l = Cleared l.initial.odd (take l.s-index l.signals) l.odd
