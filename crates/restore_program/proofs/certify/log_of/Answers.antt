use Rattle.std.proofs.Common.{◌≡◌, length, ap, subst, ◌∙◌}
use Rattle.std.specs.Prelude.{All}
use Rattle.sr_model.specs.Closure.{passing}
use Rattle.sr_model.specs.Dump.{dump_has}
use Rattle.unroll.specs.Problem.{Unrolling, unrolled}
use Rattle.known_planes.specs.Planes.{lits}
use Rattle.plain_close.specs.Log.{IsLog}
use Rattle.certificates.specs.Logs.{IsClashIn, IsStepIn}
use Rattle.certificates.proofs.lemmas.Laws.{logs_are_in}
use Rattle.restore_program.specs.Certifying.{IsLogOf}
use Rattle.restore_program.proofs.Outcomes.{log_outcome, of_ok}
use Rattle.restore_program.proofs.certify.log_of.Goals as goal

pub returns-clause-log : goal.returns-clause-log
returns-clause-log c =
    let p_is : c.new-p.result ≡ record { circuit = c.args.n.now; cycles = c.args.d.now.cycles } = c.new-p.ensures ∙ ap (λ cycles. record { circuit = c.args.n.now; cycles = cycles }) c.cycles.ensures.value in
    of_ok (λ log. IsLog (unrolled c.new-p.result) (lits c.new-p.result c.in_ok-base.base) log.steps.items log.clash) (λ log. IsLogOf c.args.n.now c.args.d.now log.steps.items log.clash)
    (λ log is. subst (λ (u : Unrolling). IsLog (unrolled u) (passing (dump_has c.args.d.now.rows)) log.steps.items log.clash) p_is
    (log_outcome c.new-p.result c.in_ok-base.base c.args.d.now.rows c.in_ok-base.ensures.literals log.steps.items log.clash is))
    c.derive_log.result c.derive_log.ensures.log

pub returns-clause-steps : goal.returns-clause-steps
returns-clause-steps c =
    of_ok (λ log. IsLogOf c.args.n.now c.args.d.now log.steps.items log.clash) (λ log. All (IsStepIn (length c.args.n.now.drivers)) log.steps.items)
    (λ log is. (logs_are_in c.args.n.now c.args.d.now log.steps.items log.clash c.requires.circuit c.cycles.ensures.recording c.requires.signals is).0) c.derive_log.result (returns-clause-log c)

pub returns-clause-clash : goal.returns-clause-clash
returns-clause-clash c =
    of_ok (λ log. IsLogOf c.args.n.now c.args.d.now log.steps.items log.clash) (λ log. IsClashIn (length c.args.n.now.drivers) log.clash)
    (λ log is. (logs_are_in c.args.n.now c.args.d.now log.steps.items log.clash c.requires.circuit c.cycles.ensures.recording c.requires.signals is).1) c.derive_log.result (returns-clause-log c)
