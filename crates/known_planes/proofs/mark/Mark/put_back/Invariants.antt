use Rattle.std.proofs.Common.{length}
use Rattle.unroll.specs.Problem.{chunks_in, signals_in}
use Rattle.known_planes.proofs.GoingBack.{IsGoingBack}
use Rattle.known_planes.proofs.mark.Mark.put_back.Given as goal

abbrev pub invariant-loop-change : goal.invariant-loop-change
invariant-loop-change l = IsGoingBack (signals_in l.p) (chunks_in l.p) l.p.circuit.drivers l.initial.self l.initial.words.items l.self l.words.items l.known l.known_before

abbrev pub decreases-loop-change : goal.decreases-loop-change
decreases-loop-change l = length l.self.changes
