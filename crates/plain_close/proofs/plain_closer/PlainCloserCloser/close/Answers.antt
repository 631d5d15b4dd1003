use Rattle.std.proofs.Common.{subst}
use Rattle.sr_model.specs.Closure.{Closure, SameLits}
use Rattle.unroll.specs.Problem.{unrolled}
use Rattle.known_planes.specs.Planes.{PlaneSet, lits}
use Rattle.plain_close.proofs.plain_closer.PlainCloserCloser.close.Goals as goal

pub returns-clause-closure : goal.returns-clause-closure
returns-clause-closure g c =
    subst (λ (x : PlaneSet). SameLits (lits c.args.p.now c.turn_all.new.planes) (Closure (unrolled c.args.p.now) (lits c.args.p.now x))) c.in_ok-planes.ensures c.in_ok-turn_all.ensures.closure
