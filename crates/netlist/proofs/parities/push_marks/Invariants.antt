use Rattle.std.proofs.Common.{◌≡◌, ◌++◌, false, map, take, slice_index_or}
use Rattle.netlist.proofs.parities.push_marks.Given as goal

abbrev pub invariant-loop-s : goal.invariant-loop-s
invariant-loop-s l = l.marks.items ≡ l.initial.marks.items ++ map (λ s. slice_index_or l.odd s.0 false) (take l.s-index l.signals)
