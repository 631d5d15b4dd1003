use Rattle.std.proofs.Common.{◌*◌, ◌≤◌, arith}
use Rattle.greedy_select.proofs.Counting.{few-cells}
use Rattle.greedy_select.proofs.tracing.Tracing.ratio.Goals as goal

pub new-requires-clause-traced : goal.new-requires-clause-traced
new-requires-clause-traced c =
    let p = c.args.self.now.p in
    few-cells p.circuit.drivers c.from.result c.args.traces c.args.self.now.few_signals (omega (arith, c.from.ensures, c.cycles.ensures.count)) c.requires.traces

pub overflow_mul-traces : goal.overflow_mul-traces
overflow_mul-traces c =
    let few : c.args.traces * c.from.result ≤ 536870912 = few-cells c.args.self.now.p.circuit.drivers c.from.result c.args.traces c.args.self.now.few_signals (omega (arith, c.from.ensures, c.cycles.ensures.count)) c.requires.traces in
    omega (arith, few)
