use Rattle.std.proofs.Common.{map}
use Rattle.unroll.specs.Problem.{block_in}
use Rattle.plain_close.proofs.ListedChanges.{AreFirstKnown}
use Rattle.plain_close.proofs.chunk_tasks.are_new.Given as goal

abbrev pub invariant-loop-index : goal.invariant-loop-index
invariant-loop-index l = AreFirstKnown l.planes (map (block_in l.p) l.in_chunks) l.out l.index
