use Rattle.std.proofs.Common.{take}
use Rattle.plain_close.specs.Changes.{AddsChanges}
use Rattle.plain_close.proofs.changes.add_changes.Given as goal

abbrev pub invariant-loop-change : goal.invariant-loop-change
invariant-loop-change l = AddsChanges l.p l.chunk (take l.change-index l.changes) l.added l.fn.planes l.planes l.fn.worklist l.worklist
