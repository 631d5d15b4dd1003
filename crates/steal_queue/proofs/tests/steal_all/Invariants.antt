use Rattle.std.proofs.Common.{◌≡◌, Some, length, ◌-◌}
use Rattle.steal_queue.proofs.tests.steal_all.Given as goal

abbrev pub invariant-loop : goal.invariant-loop
invariant-loop l = l.thief.deal ≡ Some l.q.deal

abbrev pub decreases-loop : goal.decreases-loop
decreases-loop l = l.q.deal.chunks - length l.thief.took
