use Rattle.std.proofs.Common.{◌≡◌, ◌*◌, arith, ap, ◌∙◌}
use Rattle.std.specs.List.{sum_by, range_with_len}
use Rattle.netlist.specs.Wiring.{signals_below}
use Rattle.known_planes.specs.Counts.{literal_bits_at}
use Rattle.known_planes.proofs.SignalCounts.{literals-all, chunk-more}
use Rattle.known_planes.proofs.planes.Planes.count_literals.Goals as goal

pub loop-chunk-preserved : goal.loop-chunk-preserved
loop-chunk-preserved c =
    chunk-more (λ chunk. sum_by (λ s. literal_bits_at c.args.self.now s.0 chunk) (signals_below c.args.self.now.signals)) c.loop-chunk.chunk c.loop-chunk.count c.literals_in_chunk-count.result (128 * 65536)
    c.literals_in_chunk-count.ensures.count c.literals_in_chunk-count.ensures.few c.loop-chunk.invariant

pub returns : goal.returns
returns c u of =
    let all : c.loop-chunk.chunk ≡ c.args.self.now.chunks = omega (arith, c.loop-chunk-test.false, c.loop-chunk.auto.chunk-end, c.chunks-chunk-end.ensures.chunks) in
    c.loop-chunk.invariant.0
    ∙ ap (λ n. sum_by (λ chunk. sum_by (λ s. literal_bits_at c.args.self.now s.0 chunk) (signals_below c.args.self.now.signals)) (range_with_len 0 n)) all
    ∙ literals-all u c.args.self.now of
