use Rattle.std.proofs.Common.{map}
use Rattle.plain_close.specs.Turns.{Wakes, Falls, JoinsFirst}
use Rattle.unroll.specs.Problem.{block_in}
use Rattle.plain_close.proofs.turns.join_all.Given as goal

abbrev pub invariant-loop-index : goal.invariant-loop-index
invariant-loop-index l =
    Wakes l.p l.fn.planes l.planes l.fn.worklist l.worklist × Falls l.p l.added l.fn.planes l.planes l.fn.worklist l.worklist
    × JoinsFirst (map (block_in l.p) l.fn.in_chunks) l.fn.out l.index l.fn.planes l.planes
