use Rattle.plain_close.specs.Worklist.{StirsChunks}
use Rattle.plain_close.proofs.worklist.Worklist.add_known.Given as goal

abbrev pub invariant-loop-chunk : goal.invariant-loop-chunk
invariant-loop-chunk l = StirsChunks l.p l.planes l.chunk l.fn.self l.self
