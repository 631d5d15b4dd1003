use Rattle.std.proofs.Common.{subst}
use Rattle.netlist.specs.Wiring.{driver_at}
use Rattle.unroll.specs.Records.{HasShape}
use Rattle.plain_close.proofs.chunk_tasks.force_task.Goals as goal

pub force_one_pin-requires-clause-shape : goal.force_one_pin-requires-clause-shape
force_one_pin-requires-clause-shape c = (
  c.args.signal.second,
  subst (λ w. HasShape w (driver_at c.args.p.now.circuit.drivers c.args.task.sig.0) c.args.task.sig c.args.signal.first c.args.signal.second) c.in-OnePin.is c.requires.signal,
)

pub list_flip_flop-requires-clause-shape : goal.list_flip_flop-requires-clause-shape
list_flip_flop-requires-clause-shape c = (
  c.args.signal.second,
  subst (λ w. HasShape w (driver_at c.args.p.now.circuit.drivers c.args.task.sig.0) c.args.task.sig c.args.signal.first c.args.signal.second) c.in-FlipFlop.is c.requires.signal,
)
