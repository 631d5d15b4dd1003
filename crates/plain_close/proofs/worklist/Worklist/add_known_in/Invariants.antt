use Rattle.plain_close.specs.Worklist.{StirsChunk}
use Rattle.plain_close.proofs.worklist.Worklist.add_known_in.Given as goal

abbrev pub invariant-loop-number : goal.invariant-loop-number
invariant-loop-number l = StirsChunk l.p l.planes l.chunk l.number l.fn.self l.self
