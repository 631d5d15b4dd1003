use Rattle.std.proofs.Common.{ℕ, ◌<◌, ◌≤◌}
use Rattle.unroll.specs.Waiting.{IsIdle}
use Rattle.unroll.proofs.waiting.WaitingTasks.row_before.Given as goal

abbrev pub invariant-loop-earlier : goal.invariant-loop-earlier
invariant-loop-earlier l = (c : ℕ) → l.earlier ≤ c → c < l.fn.chunk → IsIdle l.fn.self c
