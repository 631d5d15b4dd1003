use Rattle.std.proofs.Common.{◌≡◌}
use Rattle.unroll.proofs.tests.waiting.take.Given as goal

abbrev pub invariant-loop-task : goal.invariant-loop-task
invariant-loop-task g l = (l.waiting.signals ≡ 8300) × (l.waiting.chunks ≡ 4)
