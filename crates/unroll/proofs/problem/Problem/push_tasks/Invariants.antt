use Rattle.std.proofs.Common.{◌≡◌, ◌++◌, map}
use Rattle.std.specs.List.{range_with_len}
use Rattle.unroll.specs.Tasks.{task_at}
use Rattle.unroll.proofs.problem.Problem.push_tasks.Given as goal

abbrev pub invariant-loop-chunk : goal.invariant-loop-chunk
invariant-loop-chunk l = l.found.items ≡ l.initial.found.items ++ map (task_at l.self l.target) (range_with_len 0 l.chunk)
