use Rattle.std.proofs.Common.{◌≡◌, length, arith, ap, ◌∙◌}
use Rattle.netlist.specs.Circuit.{Circuit}
use Rattle.netlist.specs.Wiring.{flip_flops}
use Rattle.known_planes.proofs.SignalCounts.{known-more, listed-within, few-flip_flops}
use Rattle.known_planes.proofs.planes.Planes.known_in_chunk.Goals as goal

pub pair-words-requires-clause-signal : goal.pair-words-requires-clause-signal
pair-words-requires-clause-signal c =
    listed-within c.args.p.now c.args.self.now c.requires.of c.flip_flops-s-items.result.now (c.flip_flops-s-items.ensures ∙ ap (λ (x : Circuit). flip_flops x.drivers) c.net.ensures.net) c.loop-s.s-index
    (record { 0 = 0 }) c.loop-s-test.true

pub loop-s-preserved : goal.loop-s-preserved
loop-s-preserved c =
    known-more c.args.self.now c.args.chunk c.flip_flops-s-items.result.now c.loop-s.s-index _ c.loop-s-test.true c.pair-words.result c.known.result c.count_bits.result c.from-count.result c.loop-s.count
    c.pair-words.ensures c.known.ensures c.count_bits.ensures.count c.count_bits.ensures.few c.from-count.ensures c.loop-s.invariant

pub overflow_add-count : goal.overflow_add-count
overflow_add-count c =
    let same : length c.flip_flops-s-items.result.now ≡ length (flip_flops c.args.p.now.circuit.drivers) = ap length (c.flip_flops-s-items.ensures ∙ ap (λ (x : Circuit). flip_flops x.drivers) c.net.ensures.net) in
    omega (arith, c.loop-s.invariant.1, c.loop-s-test.true, c.from-count.ensures, c.count_bits.ensures.few, same, few-flip_flops c.args.p.now.circuit.drivers, c.net.ensures.problem.is_circuit.few_signals)

pub returns-clause-few : goal.returns-clause-few
returns-clause-few c =
    let same : length c.flip_flops-s-items.result.now ≡ length (flip_flops c.args.p.now.circuit.drivers) = ap length (c.flip_flops-s-items.ensures ∙ ap (λ (x : Circuit). flip_flops x.drivers) c.net.ensures.net) in
    omega (arith, c.loop-s.invariant.1, c.loop-s.auto.s-index-end, same, few-flip_flops c.args.p.now.circuit.drivers, c.net.ensures.problem.is_circuit.few_signals)
