use Rattle.std.proofs.Common.{◌++◌, ◌∷◌, [], map, sym, ap, ◌∙◌, arith}
use Rattle.std.proofs.lemmas.List.{append_assoc}
use Rattle.std.proofs.lemmas.List.FromFn.{map-range_with_len_more}
use Rattle.std.specs.List.{range_with_len}
use Rattle.unroll.specs.Tasks.{task_at}
use Rattle.unroll.proofs.problem.Problem.push_tasks.Goals as goal

pub loop-chunk-preserved : goal.loop-chunk-preserved
loop-chunk-preserved c =
    let its = map (task_at c.args.self.now c.args.target) in
    c.in_ok-push.ensures.ok ∙ ap (λ ts. ts ++ c.task.result ∷ []) c.loop-chunk.invariant
    ∙ append_assoc c.args.found.now.items (its (range_with_len 0 c.loop-chunk.chunk)) (c.task.result ∷ [])
    ∙ ap (λ t. c.args.found.now.items ++ (its (range_with_len 0 c.loop-chunk.chunk) ++ t ∷ [])) c.task.ensures.task
    ∙ ap (λ ts. c.args.found.now.items ++ ts) (sym (map-range_with_len_more (task_at c.args.self.now c.args.target) 0 c.loop-chunk.chunk c.loop-chunk.chunk (omega arith)))
