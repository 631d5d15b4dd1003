use Rattle.std.proofs.Common.{◌||◌, Bool}
use Rattle.known_planes.specs.Planes.{PlaneSet}
use Rattle.plain_close.specs.declared.wavefront.Wavefront.{Wavefront}
use Rattle.plain_close.specs.Wavefront.{IsUnderWay}
use Rattle.plain_close.proofs.wavefront.Wavefront.advance_at.Given as goal

abbrev pub invariant-loop-steps : goal.invariant-loop-steps
invariant-loop-steps l =
    (base : PlaneSet) (start : Wavefront) (some : Bool) → IsUnderWay l.p base l.fn.level l.fn.time 0 some start l.fn.self → IsUnderWay l.p base l.fn.level l.fn.time l.steps (l.added || some) start l.self
