use Rattle.std.proofs.Common.{◌≤◌}
use Rattle.plain_close.specs.Turns.{Between, missing_of}
use Rattle.plain_close.proofs.turns.turn_all.Given as goal

abbrev pub invariant-loop : goal.invariant-loop
invariant-loop l = Between l.p l.fn.planes l.planes l.worklist × (l.fn.buffers.blocks.room ≤ l.buffers.blocks.room)

abbrev pub decreases-loop : goal.decreases-loop
decreases-loop l = missing_of l.p l.planes
