use Rattle.std.proofs.Common.{length, subst, sym}
use Rattle.std.specs.Prelude.{All}
use Rattle.std.proofs.lemmas.List.Elements.{All-push}
use Rattle.certificates.specs.Logs.{IsStepIn}
use Rattle.report.proofs.tests.certificate_texts.log_of.Goals as goal

pub loop-one-preserved : goal.loop-one-preserved
loop-one-preserved g c =
    subst (All (IsStepIn (length c.args.net.now.drivers))) (sym c.in_ok-push.ensures.ok)
    (All-push (IsStepIn (length c.args.net.now.drivers)) c.loop-one.steps.items c.step.result c.loop-one.invariant c.step.ensures)
