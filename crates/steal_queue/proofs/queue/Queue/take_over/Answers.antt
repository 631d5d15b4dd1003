use Rattle.std.proofs.Common.{ap, sym, ◌∙◌, arith}
use Rattle.steal_queue.specs.Sides.{Dealt}
use Rattle.steal_queue.proofs.RuleSteps.{takes_over}
use Rattle.steal_queue.proofs.queue.Queue.take_over.Goals as goal

pub split_seat-requires : goal.split_seat-requires
split_seat-requires c = (
  c.requires.table ∙ sym (ap (λ (q : Dealt). q.deal.table_id) c.self.view_is),
  (let one = c.self.invariant.0 in omega arith),
  takes_over _ _ _,
)
