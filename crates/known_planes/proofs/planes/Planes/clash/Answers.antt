use Rattle.std.proofs.Common.{arith, refl}
use Rattle.known_planes.proofs.Clashes.{least-of-all, none-more, no-clash}
use Rattle.known_planes.proofs.planes.Planes.clash.Goals as goal

pub loop-chunk-init : goal.loop-chunk-init
loop-chunk-init c d h = absurd (omega (arith, h))

pub returns-in-Some-clause-some : goal.returns-in-Some-clause-some
returns-in-Some-clause-some c = least-of-all c.args.p.now c.args.self.now c.requires c.loop-chunk.chunk c.in-Some.cell c.loop-chunk.invariant c.in-Some.ensures.some

pub loop-chunk-preserved : goal.loop-chunk-preserved
loop-chunk-preserved c = none-more c.args.p.now c.args.self.now c.requires c.loop-chunk.chunk c.loop-chunk.invariant (c.in_default.ensures.none refl)

pub returns-clause-none : goal.returns-clause-none
returns-clause-none c _ = no-clash c.args.p.now c.args.self.now c.requires c.loop-chunk.chunk (omega (arith, c.loop-chunk-test.false, c.chunks-chunk-end.ensures.chunks)) c.loop-chunk.invariant
