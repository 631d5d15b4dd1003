use Rattle.std.proofs.Common.{◌++◌, sym, ap, ◌∙◌}
use Rattle.unroll.specs.Tasks.{constant_tasks_at}
use Rattle.unroll.proofs.ConstantTasks.{constants-more}
use Rattle.unroll.proofs.problem.Problem.constant_tasks.Goals as goal

pub loop-number-preserved : goal.loop-number-preserved
loop-number-preserved c =
    c.in_ok-push_constant.ensures ∙ ap (λ ts. ts ++ constant_tasks_at c.args.self.now (record { 0 = c.loop-number.number })) c.loop-number.invariant
    ∙ sym (constants-more c.args.self.now c.loop-number.number)
