use Rattle.known_planes.specs.Planes.{PlaneSet}
use Rattle.plain_close.specs.Wavefront.{IsFirst, IsUnderWay, IsWavefront}
use Rattle.plain_close.proofs.wavefront.Wavefront.advance.Given as goal

abbrev pub invariant-loop-time : goal.invariant-loop-time
invariant-loop-time l =
    (base : PlaneSet) → IsWavefront l.p base (λ _. l.fn.level) l.fn.self → IsFirst l.p base (λ _. l.fn.level) l.fn.self.first → IsUnderWay l.p base l.fn.level l.time 0 l.added l.fn.self l.self
