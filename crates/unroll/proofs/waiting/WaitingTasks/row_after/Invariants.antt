use Rattle.std.proofs.Common.{ℕ, ◌<◌}
use Rattle.unroll.specs.Waiting.{IsIdle}
use Rattle.unroll.proofs.waiting.WaitingTasks.row_after.Given as goal

abbrev pub invariant-loop-later : goal.invariant-loop-later
invariant-loop-later l = (c : ℕ) → l.fn.chunk < c → c < l.later → IsIdle l.fn.self c
