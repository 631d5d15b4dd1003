use Rattle.std.proofs.Common.{◌≡◌, Some, map, take}
use Rattle.netlist.proofs.numbers.settle.Given as goal

abbrev pub invariant-loop-number : goal.invariant-loop-number
invariant-loop-number l = map Some l.all.items ≡ take l.number l.nodes
