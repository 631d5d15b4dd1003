use Rattle.std.proofs.Common.{arith}
use Rattle.unroll.proofs.Masks.{low, full}
use Rattle.unroll.proofs.bits.low_bits.Goals as goal

pub returns-then-count-lt64 : goal.returns-then-count-lt64
returns-then-count-lt64 c = λ i h. low c.args.count i c.if-count-lt64.true

pub returns-else-count-lt64 : goal.returns-else-count-lt64
returns-else-count-lt64 c = λ i h. full c.args.count i (omega arith) h
