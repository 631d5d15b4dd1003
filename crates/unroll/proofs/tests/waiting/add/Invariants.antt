use Rattle.std.proofs.Common.{◌≡◌}
use Rattle.unroll.proofs.tests.waiting.add.Given as goal

abbrev pub invariant-loop-sig : goal.invariant-loop-sig
invariant-loop-sig g l = (l.waiting.signals ≡ 8300) × (l.waiting.chunks ≡ 4)
