use Rattle.plain_close.specs.Turns.{Wakes, AddsRow}
use Rattle.plain_close.proofs.plain_closer.add_row.Given as goal

abbrev pub invariant-loop-chunk : goal.invariant-loop-chunk
invariant-loop-chunk l = Wakes l.p l.fn.planes l.planes l.fn.worklist l.worklist × AddsRow l.p l.sig l.row l.chunk l.fn.planes l.planes
