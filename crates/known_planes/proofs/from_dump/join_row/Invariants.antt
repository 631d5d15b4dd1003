use Rattle.std.proofs.Common.{◌≡◌}
use Rattle.known_planes.specs.Planes.{IsOf}
use Rattle.known_planes.proofs.DumpRows.{HasChunks}
use Rattle.known_planes.proofs.from_dump.join_row.Given as goal

abbrev pub invariant-loop-chunk : goal.invariant-loop-chunk
invariant-loop-chunk l = IsOf l.p l.planes × HasChunks l.p l.initial.planes l.s l.cells l.chunk l.planes × (l.planes.mark ≡ l.initial.planes.mark)
