use Rattle.std.proofs.Common.{ap, sym, ◌∙◌, arith, subst}
use Rattle.atomic_table.specs.Table.{Splits}
use Rattle.steal_queue.specs.declared.rule.Drawn.{Drawn}
use Rattle.steal_queue.specs.Rule.{IsDealt, one_less, nothing_drawn}
use Rattle.steal_queue.specs.Sides.{Dealt}
use Rattle.steal_queue.proofs.RuleSteps.{splits}
use Rattle.steal_queue.proofs.queue.Queue.split.Goals as goal

pub split_seat-requires : goal.split_seat-requires
split_seat-requires c =
    let unused = ap (λ m. m.0) c.requires.unused in (
      c.requires.table ∙ sym (ap (λ (q : Dealt). q.deal.table_id) c.self.view_is),
      (let one = c.self.invariant.0 in omega arith),
      subst (λ (v : Drawn). Splits (IsDealt c.self.inside.table.shared.key) c.args.seat.now.id v (one_less v) (nothing_drawn 1)) (sym unused) (splits _ _ _ c.requires.many),
    )
