use Rattle.std.proofs.Common.{length, ap, subst, sym, ◌∙◌}
use Rattle.std.proofs.lemmas.List.{length-map}
use Rattle.netlist.specs.Circuit.{IsCircuit}
use Rattle.certificates.specs.declared.claim.Fact.{Fact}
use Rattle.report.specs.Check.{checked_text}
use Rattle.restore_program.specs.Certifying.{OnCheck, ends_with, is_accepted, not_accepted}
use Rattle.restore_program.proofs.Answering.{bad_certified}
use Rattle.restore_program.proofs.Checks.{clash_is_in}
use Rattle.restore_program.proofs.check.checked_reply.Goals as goal

pub returns-in-Ok-clause-answer : goal.returns-in-Ok-clause-answer
returns-in-Ok-clause-answer c words plain =
    let (facts, valid, lits) = c.in-Ok.ensures.valid in
    subst (λ count. OnCheck c.args.n c.args.d.now c.args.bytes.now (checked_text c.args.n count c.in-Ok.facts.clash) (ends_with c.in-Ok.facts.clash)) (sym (c.len.ensures ∙ ap length lits ∙ length-map facts (λ (fact : Fact). fact.lit)))
    (is_accepted facts c.in-Ok.facts.clash (c.requires.short, valid))

pub returns-in-Ok-clause-ready : goal.returns-in-Ok-clause-ready
returns-in-Ok-clause-ready c words =
    let (facts, valid, lits) = c.in-Ok.ensures.valid in
    clash_is_in c.args.n c.args.d.now c.args.bytes.now facts c.in-Ok.facts.clash (subst IsCircuit c.n.view_is c.n.invariant.0) valid

pub returns-in-Err-clause-answer : goal.returns-in-Err-clause-answer
returns-in-Err-clause-answer c words plain = not_accepted _ _ (bad_certified words c.args.n c.args.d.now c.args.bytes.now c.in-Err.refusal c.requires.short c.in-Err.ensures.refused plain)
