use Rattle.std.proofs.Common.{◌<◌, ◌^◌, ap, sym, ◌∙◌, arith}
use Rattle.steal_queue.specs.Sides.{Dealt}
use Rattle.steal_queue.proofs.RuleSteps.{draws}
use Rattle.steal_queue.proofs.queue.Queue.draw.Goals as goal

pub fetch_add-requires : goal.fetch_add-requires
fetch_add-requires c =
    let small : c.self.inside.table.shared.key.chunks < 2 ^ 32 = let few = c.self.invariant.3 in omega arith in (
      c.requires.table ∙ sym (ap (λ (q : Dealt). q.deal.table_id) c.self.view_is),
      (let one = c.self.invariant.0 in omega arith),
      draws _ _ _ c.args.seat.now.me c.requires.undone c.requires.some c.self.invariant.2 small,
    )
