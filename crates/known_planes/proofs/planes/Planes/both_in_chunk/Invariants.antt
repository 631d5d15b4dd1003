use Rattle.known_planes.proofs.Clashes.{HasEach}
use Rattle.known_planes.proofs.planes.Planes.both_in_chunk.Given as goal

abbrev pub invariant-loop-s : goal.invariant-loop-s
invariant-loop-s l = HasEach l.self l.chunk l.s l.both
