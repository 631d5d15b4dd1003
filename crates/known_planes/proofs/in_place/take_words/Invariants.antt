use Rattle.known_planes.proofs.InPlace.{HasTaken}
use Rattle.known_planes.proofs.in_place.take_words.Given as goal

abbrev pub invariant-loop-b : goal.invariant-loop-b
invariant-loop-b l = HasTaken l.p l.initial.planes l.from l.b l.planes
