use Rattle.known_planes.specs.Planes.{IsOf}
use Rattle.known_planes.proofs.InPlace.{HasRow}
use Rattle.known_planes.proofs.in_place.planes_of_row.Given as goal

abbrev pub invariant-loop-chunk : goal.invariant-loop-chunk
invariant-loop-chunk l = IsOf l.p l.planes × HasRow l.p l.sig l.row l.chunk l.planes
