use Rattle.std.proofs.Common.{map}
use Rattle.unroll.specs.Problem.{block_in}
use Rattle.plain_close.proofs.ListedChanges.{HaveFirstNoClash}
use Rattle.plain_close.proofs.chunk_tasks.would_clash.Given as goal

abbrev pub invariant-loop-index : goal.invariant-loop-index
invariant-loop-index l = HaveFirstNoClash l.planes (map (block_in l.p) l.in_chunks) l.out l.index
