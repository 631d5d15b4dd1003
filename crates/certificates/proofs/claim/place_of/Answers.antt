use Rattle.certificates.proofs.Names.{no-place, target-within}
use Rattle.certificates.proofs.claim.place_of.Goals as goal

pub stands-requires-clause-signal : goal.stands-requires-clause-signal
stands-requires-clause-signal c =
    target-within c.args.p.now c.net.result.now c.net.ensures.net c.net.ensures.problem.is_circuit c.args.target.now c.in_ok-target.target c.in_ok-target.ensures.some

pub returns-then-not-stands-clause-none : goal.returns-then-not-stands-clause-none
returns-then-not-stands-clause-none c = λ none.
    no-place c.args.p.now c.net.result.now c.net.ensures.net c.net.ensures.problem.is_circuit c.args.target.now c.in_ok-target.target c.in_ok-target.ensures.some
    c.args.at c.stands.result c.stands.ensures c.if-not-stands.true
