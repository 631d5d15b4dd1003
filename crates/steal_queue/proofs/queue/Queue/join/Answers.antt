use Rattle.std.proofs.Common.{ap, sym, ◌∙◌, arith}
use Rattle.steal_queue.specs.Sides.{Dealt}
use Rattle.steal_queue.proofs.RuleSteps.{joins}
use Rattle.steal_queue.proofs.queue.Queue.join.Goals as goal

pub join_seat-requires : goal.join_seat-requires
join_seat-requires c =
    let table = sym (ap (λ (q : Dealt). q.deal.table_id) c.self.view_is) in (
      c.requires.table ∙ table,
      c.requires.other ∙ table,
      c.requires.free,
      (let one = c.self.invariant.0 in omega arith),
      joins _ _ _ _ _ c.requires.some,
    )
