use Rattle.std.proofs.Common.{◌≡◌, ◌⊎◌, ◌↔◌, ◌+◌, ℕ, List, Some, None, length, ap, sym, subst, ◌∙◌, refl, arith}
use Rattle.std.specs.Prelude.{IsTrue}
use Rattle.std.proofs.lemmas.Result.{IfErr-weaker, IfOk-weaker}
use Rattle.sr_model.specs.declared.cells.Lit.{Lit}
use Rattle.sr_text.specs.Lines.{past, rest_of}
use Rattle.unroll.specs.Problem.{Unrolling}
use Rattle.known_planes.specs.Planes.{PlaneSet, has}
use Rattle.certificates.specs.Checking.{IsNotLast}
use Rattle.certificates.specs.Known.{IsThere}
use Rattle.certificates.specs.Refusal.{IsRefusal}
use Rattle.certificates.specs.Validity.{last_claim}
use Rattle.certificates.proofs.ReadSoFar.{claim_refused, is-there, more, none_left, not_last, starts, valid}
use Rattle.certificates.proofs.checker.check_cert.Goals as goal

pub loop-line-init : goal.loop-line-init
loop-line-init c =
    starts c.args.n.now c.args.d.now c.args.bytes.now c.new-p.result c.in_ok-known.known (rest_of c.new-lines.result) (rest_of c.read_head.new.lines) (past c.read_head.new.lines) c.new-lits.result.items
    (c.new-p.ensures ∙ ap (λ k. let u : Unrolling = record { circuit = c.args.n.now; cycles = k } in u) c.cycles.ensures.value) c.in_ok-known.ensures.kept c.in_ok-known.ensures.literals
    c.new-lines.ensures.left c.in_ok-read_head.ensures.head (c.read_head.ensures.past ∙ c.new-lines.ensures.past) c.new-lits.ensures.items

pub bears_out-requires-clause-there : goal.bears_out-requires-clause-there
bears_out-requires-clause-there c =
    is-there c.args.n.now c.args.d.now c.args.bytes.now c.new-p.result (rest_of c.loop-line.lines) (past c.loop-line.lines) c.loop-line.known c.loop-line.lits.items c.loop-line.invariant
    c.in-Some.text.now c.in_ok-claim.claim c.in_ok-claim.ensures.claim

pub returns-then-not-branch-clause-refused : goal.returns-then-not-branch-clause-refused
returns-then-not-branch-clause-refused c =
    claim_refused c.args.n.now c.args.d.now c.args.bytes.now c.new-p.result (rest_of c.loop-line.lines) (past c.loop-line.lines) c.loop-line.known c.loop-line.lits.items c.loop-line.invariant
    c.in-Some.line c.in-Some.text.now (rest_of c.next.new.self) c.in-Some.ensures.first c.in_ok-claim.claim c.in_ok-claim.ensures.claim c.in_ok-bears_out.field-0 c.in_ok-bears_out.ensures.holds c.if-not-branch.true

pub add-requires-clause-cell : goal.add-requires-clause-cell
add-requires-clause-cell c =
    (subst (IsThere c.new-p.result) c.in-Forced.is
    (is-there c.args.n.now c.args.d.now c.args.bytes.now c.new-p.result (rest_of c.loop-line.lines) (past c.loop-line.lines) c.loop-line.known c.loop-line.lits.items c.loop-line.invariant
    c.in-Some.text.now c.in_ok-claim.claim c.in_ok-claim.ensures.claim)).0

pub loop-line-preserved : goal.loop-line-preserved
loop-line-preserved c =
    more c.args.n.now c.args.d.now c.args.bytes.now c.new-p.result (rest_of c.loop-line.lines) (past c.loop-line.lines) c.loop-line.known c.loop-line.lits.items c.loop-line.invariant
    c.in-Some.line c.in-Some.text.now (rest_of c.next.new.self) c.in-Some.ensures.first c.in_ok-claim.claim c.in_ok-claim.ensures.claim (c.in_ok-bears_out.ensures.holds.0 c.if-not-branch.false)
    c.in-Forced.fact c.add.new.self c.push.new.self.items (past c.next.new.self) c.in-Forced.is c.add.ensures.kept
    (subst (λ (planes : PlaneSet). (m : Lit) → IsTrue (has c.new-p.result c.add.new.self.planes m) ↔ (IsTrue (has c.new-p.result planes m) ⊎ (c.in-Forced.fact.lit ≡ m))) c.bears_out.ensures.planes c.add.ensures.literals)
    c.in_ok-push-in-Forced.ensures.ok c.next.ensures.past

pub returns-clause-refused : goal.returns-clause-refused
returns-clause-refused c =
    let none = c.in_default.ensures.none refl in
    none_left c.args.n.now c.args.d.now c.args.bytes.now c.new-p.result (rest_of c.loop-line.lines) (past c.loop-line.lines) c.loop-line.known c.loop-line.lits.items c.loop-line.invariant
    (c.passed.result + 1) none.0 (omega (arith, c.passed.ensures.value, c.next.ensures.past, ap (λ (ls : List (List ℕ)). length ls) none.1))

pub returns-in-End-clause-refused : goal.returns-in-End-clause-refused
returns-in-End-clause-refused c =
    IfErr-weaker c.last.result (IsNotLast (rest_of c.next.new.self)) (IsRefusal c.args.n.now c.args.d.now c.args.bytes.now)
    (λ e refused. not_last c.args.n.now c.args.d.now c.args.bytes.now c.new-p.result (rest_of c.loop-line.lines) (past c.loop-line.lines) c.loop-line.known c.loop-line.lits.items c.loop-line.invariant
    c.in-Some.line c.in-Some.text.now (rest_of c.next.new.self) c.in-Some.ensures.first c.in_ok-claim.claim c.in_ok-claim.ensures.claim (c.in_ok-bears_out.ensures.holds.0 c.if-not-branch.false)
    None e c.in-End.is refused)
    c.last.ensures.refusal

pub returns-in-Contradiction-clause-refused : goal.returns-in-Contradiction-clause-refused
returns-in-Contradiction-clause-refused c =
    IfErr-weaker c.last-in-Contradiction.result (IsNotLast (rest_of c.next.new.self)) (IsRefusal c.args.n.now c.args.d.now c.args.bytes.now)
    (λ e refused. not_last c.args.n.now c.args.d.now c.args.bytes.now c.new-p.result (rest_of c.loop-line.lines) (past c.loop-line.lines) c.loop-line.known c.loop-line.lits.items c.loop-line.invariant
    c.in-Some.line c.in-Some.text.now (rest_of c.next.new.self) c.in-Some.ensures.first c.in_ok-claim.claim c.in_ok-claim.ensures.claim (c.in_ok-bears_out.ensures.holds.0 c.if-not-branch.false)
    (Some c.in-Contradiction.cell) e c.in-Contradiction.is refused)
    c.last-in-Contradiction.ensures.refusal

pub returns-in-End-clause-valid : goal.returns-in-End-clause-valid
returns-in-End-clause-valid c =
    IfOk-weaker c.last.result _ _
    (λ f h. valid c.args.n.now c.args.d.now c.args.bytes.now c.new-p.result (rest_of c.loop-line.lines) (past c.loop-line.lines) c.loop-line.known c.loop-line.lits.items c.loop-line.invariant
    c.in-Some.line c.in-Some.text.now (rest_of c.next.new.self) c.in-Some.ensures.first c.in_ok-claim.claim c.in_ok-claim.ensures.claim (c.in_ok-bears_out.ensures.holds.0 c.if-not-branch.false)
    f.clash f.lits.items (c.in-End.is ∙ ap last_claim (sym h.2)) h.0 h.1)
    c.last.ensures.facts

pub returns-in-Contradiction-clause-valid : goal.returns-in-Contradiction-clause-valid
returns-in-Contradiction-clause-valid c =
    IfOk-weaker c.last-in-Contradiction.result _ _
    (λ f h. valid c.args.n.now c.args.d.now c.args.bytes.now c.new-p.result (rest_of c.loop-line.lines) (past c.loop-line.lines) c.loop-line.known c.loop-line.lits.items c.loop-line.invariant
    c.in-Some.line c.in-Some.text.now (rest_of c.next.new.self) c.in-Some.ensures.first c.in_ok-claim.claim c.in_ok-claim.ensures.claim (c.in_ok-bears_out.ensures.holds.0 c.if-not-branch.false)
    f.clash f.lits.items (c.in-Contradiction.is ∙ ap last_claim (sym h.2)) h.0 h.1)
    c.last-in-Contradiction.ensures.facts
