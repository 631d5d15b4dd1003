use Rattle.std.proofs.Common.{map, take}
use Rattle.plain_close.specs.Turns.{HaveNoClash}
use Rattle.unroll.specs.Problem.{block_in}
use Rattle.plain_close.proofs.turns.have_clash.Given as goal

abbrev pub invariant-loop-at : goal.invariant-loop-at
invariant-loop-at l = HaveNoClash l.planes (map (block_in l.p) (take l.at-index l.in_chunks))
