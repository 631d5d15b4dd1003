use Rattle.std.proofs.Common.{arith}
use Rattle.unroll.proofs.WaitingWords.{lowest-first, lowest-set}
use Rattle.unroll.proofs.waiting.lowest_bit.Goals as goal

pub returns-clause-set : goal.returns-clause-set
returns-clause-set c = lowest-set c.args.word c.requires (omega (arith, c.ranges.word.fits))

pub returns-clause-lowest : goal.returns-clause-lowest
returns-clause-lowest c i below = lowest-first c.args.word i c.requires (omega (arith, c.ranges.word.fits)) below
