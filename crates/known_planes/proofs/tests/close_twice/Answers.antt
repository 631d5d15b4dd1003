use Rattle.sr_model.specs.Closure.{Closure}
use Rattle.sr_model.proofs.lemmas.Laws.{closed, has_base, least}
use Rattle.unroll.specs.Problem.{unrolled}
use Rattle.known_planes.specs.Planes.{lits}
use Rattle.known_planes.proofs.tests.close_twice.Goals as goal

pub close_in_place-requires-clause-closed : goal.close_in_place-requires-clause-closed
close_in_place-requires-clause-closed g c = (
  λ l known. has_base (unrolled c.args.p.now) (lits c.args.p.now c.in_ok-planes.planes) l known,
  λ l follows. c.in_ok-planes.ensures.closure.1 l
      (least (unrolled c.args.p.now) (lits c.args.p.now c.in_ok-planes.planes) (Closure (unrolled c.args.p.now) (lits c.args.p.now c.args.base.now)) (closed (unrolled c.args.p.now) (lits c.args.p.now c.args.base.now))
      c.in_ok-planes.ensures.closure.0 l follows),
)
