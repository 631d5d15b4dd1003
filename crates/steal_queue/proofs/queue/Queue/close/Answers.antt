use Rattle.std.proofs.Common.{ap, ◌∙◌, sym}
use Rattle.steal_queue.specs.Rule.{sum_below}
use Rattle.steal_queue.specs.Sides.{Dealt}
use Rattle.steal_queue.proofs.RuleSteps.{drew_all}
use Rattle.steal_queue.proofs.queue.Queue.close.Goals as goal

pub returns : goal.returns
returns c = record {
  each_once = λ g.
      let last = c.close_with.ensures.values.2 in
      let is = c.self.view_is in
      drew_all _ last.0 last.1.0 _ _ last.1.1 (c.requires.all ∙ sym (ap (λ (q : Dealt). q.sides) is)) c.requires.done g ∙ ap (λ (q : Dealt). sum_below g q.deal.chunks) is;
}
