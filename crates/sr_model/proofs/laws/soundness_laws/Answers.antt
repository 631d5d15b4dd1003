use Rattle.sr_model.specs.Closure.{passing}
use Rattle.sr_model.specs.Dump.{dump_has}
use Rattle.sr_model.proofs.ClosureLaws.{sound, no_execution_has_both}
use Rattle.sr_model.proofs.laws.soundness_laws.Goals as goal

pub returns : goal.returns
returns c = record {
  sound = λ u base v runs has. sound u (passing base) v runs has;
  excludes = λ u base cell both v runs has. no_execution_has_both u (passing base) cell both v runs has;
  known = λ u rows v runs matches. (
    sound u (passing (dump_has rows)) v runs matches,
    λ cell both. no_execution_has_both u (passing (dump_has rows)) cell both v runs matches,
  );
}
