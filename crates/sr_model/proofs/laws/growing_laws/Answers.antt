use Rattle.sr_model.specs.Closure.{passing}
use Rattle.sr_model.proofs.ClosureLaws.{forced_between, closed_between, same_closure, stable_level}
use Rattle.sr_model.proofs.laws.growing_laws.Goals as goal

pub returns : goal.returns
returns c = record {
  forced = λ u base known between. forced_between u (passing base) (passing known) between.0 between.1;
  closed = λ u base known between. closed_between u (passing base) (passing known) between.0 between.1;
  same = λ u base known between. same_closure u (passing base) (passing known) between.0 between.1;
  stable = λ u base. stable_level u (passing base);
}
