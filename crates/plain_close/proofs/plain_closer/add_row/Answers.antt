use Rattle.plain_close.proofs.Waking.{wakes-none, wakes-then}
use Rattle.plain_close.proofs.AddingRow.{row-more, row-none}
use Rattle.plain_close.proofs.plain_closer.add_row.Goals as goal

pub loop-chunk-init : goal.loop-chunk-init
loop-chunk-init c = (wakes-none c.args.p.now c.args.planes.now c.args.worklist.now c.requires.of c.requires.worklist, row-none c.args.p.now c.args.sig c.args.row.now c.args.planes.now)

pub loop-chunk-preserved : goal.loop-chunk-preserved
loop-chunk-preserved c = (
  wakes-then c.args.p.now c.args.planes.now c.loop-chunk.planes c.join.new.planes c.args.worklist.now c.loop-chunk.worklist c.join.new.worklist c.loop-chunk.invariant.0 c.join.ensures.wakes,
  row-more c.args.p.now c.args.sig c.args.row.now c.loop-chunk.chunk c.args.planes.now c.loop-chunk.planes c.join.new.planes c.loop-chunk.invariant.1 c.join.ensures.joins,
)
