use Rattle.std.proofs.Common.{map}
use Rattle.unroll.specs.Problem.{block_in}
use Rattle.plain_close.proofs.ListedChanges.{ListsFirst}
use Rattle.plain_close.proofs.chunk_tasks.list_new.Given as goal

abbrev pub invariant-loop-index : goal.invariant-loop-index
invariant-loop-index l = ListsFirst l.p l.planes l.task l.again (map (block_in l.p) l.in_chunks) l.out l.index l.fn.changes l.changes
