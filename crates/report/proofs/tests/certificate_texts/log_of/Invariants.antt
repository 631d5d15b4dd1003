use Rattle.std.proofs.Common.{length}
use Rattle.std.specs.Prelude.{All}
use Rattle.certificates.specs.Logs.{IsStepIn}
use Rattle.report.proofs.tests.certificate_texts.log_of.Given as goal

-- the signals of the steps so far are there
abbrev pub invariant-loop-one : goal.invariant-loop-one
invariant-loop-one g l = All (IsStepIn (length l.net.drivers)) l.steps.items
