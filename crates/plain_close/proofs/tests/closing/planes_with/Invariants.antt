use Rattle.known_planes.specs.Planes.{IsOf}
use Rattle.plain_close.proofs.tests.closing.planes_with.Given as goal

abbrev pub invariant-loop-bits : goal.invariant-loop-bits
invariant-loop-bits g l = IsOf l.p l.planes
