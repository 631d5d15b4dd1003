use Rattle.std.proofs.Common.{◌≡◌, None, take}
use Rattle.sr_model.specs.declared.cells.Lit.{Lit}
use Rattle.sr_model.specs.Dump.{dump_has}
use Rattle.known_planes.specs.Planes.{has, IsOf}
use Rattle.known_planes.proofs.from_dump.seed.Given as goal

abbrev pub invariant-loop-row : goal.invariant-loop-row
invariant-loop-row l = IsOf l.p l.planes × ((x : Lit) → has l.p l.planes x ≡ dump_has (take l.row l.d.rows) x) × (l.planes.mark ≡ None)
