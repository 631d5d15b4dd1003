use Rattle.std.proofs.Common.{ap, sym, ◌∙◌, arith}
use Rattle.steal_queue.specs.Sides.{Dealt}
use Rattle.steal_queue.proofs.RuleSteps.{looks}
use Rattle.steal_queue.proofs.queue.Queue.look.Goals as goal

pub load-requires : goal.load-requires
load-requires c = (
  c.requires.table ∙ sym (ap (λ (q : Dealt). q.deal.table_id) c.self.view_is),
  (let one = c.self.invariant.0 in omega arith),
  looks _ _ _ c.args.seat.now.me c.requires.done,
)
