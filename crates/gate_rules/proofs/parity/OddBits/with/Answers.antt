use Rattle.gate_rules.proofs.LaneWords.{more_counted}
use Rattle.gate_rules.proofs.parity.OddBits.with.Goals as goal

pub returns-then-is_target-clause-tally : goal.returns-then-is_target-clause-tally
returns-then-is_target-clause-tally c = λ lane pins within is.
    more_counted lane c.args.pin pins c.args.self c.no_literal-none.result c.both-both.result c.args.self.lone is (c.no_literal-none.ensures lane within) (c.both-both.ensures lane)

pub returns-else-is_target-clause-tally : goal.returns-else-is_target-clause-tally
returns-else-is_target-clause-tally c = λ lane pins within is.
    more_counted lane c.args.pin pins c.args.self c.no_literal-none.result c.both-both.result c.args.is_target is (c.no_literal-none.ensures lane within) (c.both-both.ensures lane)
