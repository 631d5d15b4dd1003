use Rattle.std.proofs.Common.{length}
use Rattle.netlist.specs.Wiring.{pin_parities}
use Rattle.netlist.specs.Nodes.{drivers_from}
use Rattle.netlist.proofs.OddPins.{Marked}
use Rattle.netlist.proofs.parities.parities_beside.Given as goal

abbrev pub invariant-loop-target : goal.invariant-loop-target
invariant-loop-target l = Marked l.signal_lists (pin_parities (drivers_from l.pins l.nodes)) (length l.nodes) l.target l.marks.items l.odd.items
