use Rattle.plain_close.specs.Turns.{Wakes, AddsChunk}
use Rattle.plain_close.proofs.plain_closer.add_chunk.Given as goal

abbrev pub invariant-loop-number : goal.invariant-loop-number
invariant-loop-number l = Wakes l.p l.fn.planes l.planes l.fn.worklist l.worklist × AddsChunk l.p l.added l.chunk l.number l.fn.planes l.planes
