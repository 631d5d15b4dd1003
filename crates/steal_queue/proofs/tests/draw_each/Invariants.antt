use Rattle.std.proofs.Common.{◌≡◌, Some, length}
use Rattle.std.specs.List.{All}
use Rattle.steal_queue.specs.Sides.{Side}
use Rattle.steal_queue.proofs.tests.draw_each.Given as goal

abbrev pub invariant-loop-side : goal.invariant-loop-side
invariant-loop-side g l = record {
  dealer : l.dealer.deal ≡ Some l.q.deal;
  thieves : All (λ (t : Side). t.deal ≡ Some l.q.deal) l.thieves;
  length : length l.thieves ≡ length l.initial.thieves;
}
