use Rattle.std.proofs.Common.{◌≡◌}
use Rattle.unroll.proofs.tests.waiting.take_from.Given as goal

abbrev pub invariant-loop-chunk : goal.invariant-loop-chunk
invariant-loop-chunk g l = (l.waiting.signals ≡ 8300) × (l.waiting.chunks ≡ 4)
