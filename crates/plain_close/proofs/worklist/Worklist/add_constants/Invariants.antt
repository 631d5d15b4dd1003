use Rattle.std.proofs.Common.{take}
use Rattle.std.specs.List.{Contains}
use Rattle.plain_close.specs.Worklist.{Pushed}
use Rattle.plain_close.proofs.worklist.Worklist.add_constants.Given as goal

abbrev pub invariant-loop-task : goal.invariant-loop-task
invariant-loop-task l = Pushed l.p (Contains (take l.task-index l.task-items)) l.fn.self l.self
