use Rattle.std.proofs.Common.{ap, ◌∙◌}
use Rattle.netlist.specs.Circuit.{Circuit}
use Rattle.netlist.specs.Wiring.{signals_of}
use Rattle.unroll.proofs.lemmas.Tasks.{signal-within}
use Rattle.plain_close.proofs.many_blocks.see.Goals as goal

pub see_signal-requires-clause-signal : goal.see_signal-requires-clause-signal
see_signal-requires-clause-signal c =
    let same = c.signals_of-sig-items.ensures.signals ∙ ap (λ (x : Circuit). signals_of x.drivers c.args.task.sig) c.net.ensures.net in
    signal-within c.args.p.now.circuit.drivers c.args.task.sig c.signals_of-sig-items.result.now same c.loop-sig.sig-index _ c.loop-sig-test.true
