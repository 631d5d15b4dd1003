use Rattle.std.proofs.Common.{◌++◌, ◌∷◌, [], ap, sym, ◌∙◌}
use Rattle.cycle_sim.proofs.Existing.{signals-more}
use Rattle.cycle_sim.proofs.execution.all_signals.Goals as goal

pub loop-number-preserved : goal.loop-number-preserved
loop-number-preserved c = c.in_ok-push.ensures.ok ∙ ap (λ xs. xs ++ record { 0 = c.loop-number.number } ∷ []) c.loop-number.invariant ∙ sym (signals-more c.loop-number.number)
