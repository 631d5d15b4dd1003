use Rattle.std.proofs.Common.{◌≡◌, ◌*◌, arith, ap, ◌∙◌}
use Rattle.std.specs.List.{sum_by, range_with_len}
use Rattle.netlist.specs.Wiring.{flip_flops}
use Rattle.known_planes.specs.Counts.{known_bits_at}
use Rattle.known_planes.proofs.SignalCounts.{known-all, chunk-more}
use Rattle.known_planes.proofs.planes.Planes.count_known_flip_flops.Goals as goal

pub loop-chunk-preserved : goal.loop-chunk-preserved
loop-chunk-preserved c =
    chunk-more (λ chunk. sum_by (λ s. known_bits_at c.args.self.now s.0 chunk) (flip_flops c.args.p.now.circuit.drivers)) c.loop-chunk.chunk c.loop-chunk.count c.known_in_chunk-count.result (64 * 65536)
    c.known_in_chunk-count.ensures.count c.known_in_chunk-count.ensures.few c.loop-chunk.invariant

pub returns-clause-count : goal.returns-clause-count
returns-clause-count c =
    let all : c.loop-chunk.chunk ≡ c.args.self.now.chunks = omega (arith, c.loop-chunk-test.false, c.loop-chunk.auto.chunk-end, c.chunks-chunk-end.ensures.chunks) in
    c.loop-chunk.invariant.0
    ∙ ap (λ n. sum_by (λ chunk. sum_by (λ s. known_bits_at c.args.self.now s.0 chunk) (flip_flops c.args.p.now.circuit.drivers)) (range_with_len 0 n)) all
    ∙ known-all c.args.p.now c.args.self.now c.requires
