use Rattle.std.proofs.Common.{take}
use Rattle.unroll.specs.Waiting.{AddsBut}
use Rattle.unroll.proofs.waiting.WaitingTasks.add_all_but.Given as goal

abbrev pub invariant-loop-sig : goal.invariant-loop-sig
invariant-loop-sig l = AddsBut (take l.sig-index l.targets) l.but l.chunk l.fn.self l.self
