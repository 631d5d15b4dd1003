use Rattle.plain_close.specs.Levels.{LogsListed}
use Rattle.plain_close.proofs.log.Level.log.Given as goal

abbrev pub invariant-loop-chunk : goal.invariant-loop-chunk
invariant-loop-chunk l = LogsListed l.p l.self.planes l.chunk l.fn.steps.items l.steps.items
