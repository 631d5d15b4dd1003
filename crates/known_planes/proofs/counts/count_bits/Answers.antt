use Rattle.known_planes.proofs.BitCounts.{ones-counted}
use Rattle.known_planes.proofs.counts.count_bits.Goals as goal

pub returns-clause-count : goal.returns-clause-count
returns-clause-count c = ones-counted c.args.word c.ranges.word.fits
