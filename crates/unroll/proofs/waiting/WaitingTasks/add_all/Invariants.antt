use Rattle.std.proofs.Common.{take}
use Rattle.unroll.specs.Waiting.{Adds}
use Rattle.unroll.proofs.waiting.WaitingTasks.add_all.Given as goal

abbrev pub invariant-loop-sig : goal.invariant-loop-sig
invariant-loop-sig l = Adds (take l.sig-index l.targets) l.chunk l.fn.self l.self
