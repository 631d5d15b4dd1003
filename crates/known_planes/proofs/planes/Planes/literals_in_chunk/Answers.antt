use Rattle.known_planes.proofs.SignalCounts.{literals-more}
use Rattle.known_planes.proofs.planes.Planes.literals_in_chunk.Goals as goal

pub loop-s-preserved : goal.loop-s-preserved
loop-s-preserved c =
    literals-more c.args.self.now c.args.chunk c.loop-s.s c.pair-words.result c.count_bits.result c.count_bits-in-loop-s.result c.from.result c.from-in-loop-s.result c.loop-s.count
    c.pair-words.ensures c.count_bits.ensures.count c.count_bits-in-loop-s.ensures.count c.count_bits.ensures.few c.count_bits-in-loop-s.ensures.few c.from.ensures c.from-in-loop-s.ensures c.loop-s.invariant
