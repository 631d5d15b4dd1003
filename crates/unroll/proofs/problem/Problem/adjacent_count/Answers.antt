use Rattle.std.proofs.Common.{◌≡◌, length, arith, ap, ◌∙◌}
use Rattle.netlist.specs.Circuit.{Circuit}
use Rattle.netlist.specs.Wiring.{other_readers}
use Rattle.unroll.proofs.AdjacentTasks.{few-other_readers}
use Rattle.unroll.proofs.problem.Problem.adjacent_count.Goals as goal

pub overflow_cast-result : goal.overflow_cast-result
overflow_cast-result c =
    let same : length c.other_readers.result.now ≡ length (other_readers c.args.self.now.circuit.drivers c.in_chunk-at.result.sig) =
    ap length (c.other_readers.ensures ∙ ap (λ (x : Circuit). other_readers x.drivers c.in_chunk-at.result.sig) c.net.ensures.net) in
    omega (arith, few-other_readers c.args.self.now.circuit.drivers c.in_chunk-at.result.sig, c.net.ensures.problem.is_circuit.few_signals, same)

pub overflow_add-result : goal.overflow_add-result
overflow_add-result c =
    let same : length c.other_readers.result.now ≡ length (other_readers c.args.self.now.circuit.drivers c.in_chunk-at.result.sig) =
    ap length (c.other_readers.ensures ∙ ap (λ (x : Circuit). other_readers x.drivers c.in_chunk-at.result.sig) c.net.ensures.net) in
    omega (arith, few-other_readers c.args.self.now.circuit.drivers c.in_chunk-at.result.sig, c.net.ensures.problem.is_circuit.few_signals, same, c.own_count.ensures.few)
