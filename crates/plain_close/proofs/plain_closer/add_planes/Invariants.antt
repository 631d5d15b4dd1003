use Rattle.plain_close.specs.Turns.{Wakes, Adds}
use Rattle.plain_close.proofs.plain_closer.add_planes.Given as goal

abbrev pub invariant-loop-chunk : goal.invariant-loop-chunk
invariant-loop-chunk l = Wakes l.p l.fn.planes l.planes l.fn.worklist l.worklist × Adds l.p l.added l.chunk l.fn.planes l.planes
