use Rattle.std.proofs.Common.{arith}
use Rattle.unroll.proofs.WaitingWords.{highest-set}
use Rattle.unroll.proofs.waiting.highest_bit.Goals as goal

pub returns-clause-set : goal.returns-clause-set
returns-clause-set c = highest-set c.args.word c.requires (omega (arith, c.ranges.word.fits))
