use Rattle.unroll.specs.declared.records.Shape.TheVariants as shapes
use Rattle.plain_close.proofs.FewBlocks.{shape-of}
use Rattle.plain_close.proofs.turns.turn.Goals as goal

pub force_one_pin-forced-requires-clause-shape : goal.force_one_pin-forced-requires-clause-shape
force_one_pin-forced-requires-clause-shape c = (
  c.get-record.result.second,
  shape-of c.args.p.now c.args.worklist.now c.requires.worklist c.args.task.sig c.get-record.result.first c.get-record.result.second c.get-record.result.shape (shapes.OnePin c.in-OnePin.family) c.in-OnePin.is c.get-record.ensures,
)

pub turn_flip_flop-requires-clause-shape : goal.turn_flip_flop-requires-clause-shape
turn_flip_flop-requires-clause-shape c = (
  c.get-record.result.second,
  shape-of c.args.p.now c.args.worklist.now c.requires.worklist c.args.task.sig c.get-record.result.first c.get-record.result.second c.get-record.result.shape shapes.FlipFlop c.in-FlipFlop.is c.get-record.ensures,
)
