use Rattle.std.proofs.Common.{◌≤◌}
use Rattle.unroll.specs.Waiting.{waiting_measure}
use Rattle.plain_close.specs.Turns.{Between}
use Rattle.plain_close.proofs.turns.turn_to_next.Given as goal

abbrev pub invariant-loop-task : goal.invariant-loop-task
invariant-loop-task l = Between l.p l.fn.planes l.planes l.worklist × (l.fn.buffers.blocks.room ≤ l.buffers.blocks.room)

abbrev pub decreases-loop-task : goal.decreases-loop-task
decreases-loop-task l = waiting_measure l.worklist.waiting
