use Rattle.known_planes.proofs.Clashes.{HasNoneBefore}
use Rattle.known_planes.proofs.planes.Planes.clash.Given as goal

abbrev pub invariant-loop-chunk : goal.invariant-loop-chunk
invariant-loop-chunk l = HasNoneBefore l.p l.self l.chunk
