use Rattle.std.proofs.Common.{refl, sym, subst}
use Rattle.std.specs.Prelude.{IsNone}
use Rattle.restore_program.proofs.Outcomes.{known_both, known_outcome, of_found, traced_outcome}
use Rattle.restore_program.proofs.restore.outcome_of.Goals as goal

pub returns-in-Some : goal.returns-in-Some
returns-in-Some g c = (
  known_outcome c.args.p.now c.in_ok-base.base c.args.dump.now.rows c.in_ok-base.ensures.literals c.in-Some.planes (of_found _ _ c.in-Some.planes c.in-Some.is c.in_ok-planes.ensures.of)
      (of_found _ _ c.in-Some.planes c.in-Some.is c.in_ok-planes.ensures.closure) (of_found _ _ c.in-Some.planes c.in-Some.is c.in_ok-planes.ensures.no_clash),
  traced_outcome c.args.p.now c.in_ok-base.base c.args.dump.now.rows c.in_ok-base.ensures.literals c.count_known_flip_flops-traced.result c.count_known_flip_flops-traced.ensures.count c.count_known_flip_flops-traced.ensures.few,
)

pub clash_from-requires-clause-some : goal.clash_from-requires-clause-some
clash_from-requires-clause-some g c =
    known_both c.args.p.now c.in_ok-base.base c.args.dump.now.rows c.in_ok-base.ensures.literals (c.in_ok-planes.ensures.none (subst IsNone (sym c.in-None.is) refl))
