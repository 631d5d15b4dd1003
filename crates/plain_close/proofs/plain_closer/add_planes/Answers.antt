use Rattle.plain_close.proofs.Waking.{wakes-then}
use Rattle.plain_close.proofs.Adding.{adds-more}
use Rattle.plain_close.proofs.plain_closer.add_planes.Goals as goal

pub loop-chunk-preserved : goal.loop-chunk-preserved
loop-chunk-preserved c = (
  wakes-then c.args.p.now c.args.planes.now c.loop-chunk.planes c.add_chunk.new.planes c.args.worklist.now c.loop-chunk.worklist c.add_chunk.new.worklist c.loop-chunk.invariant.0 c.add_chunk.ensures.wakes,
  adds-more c.args.p.now c.args.added.now c.loop-chunk.chunk c.args.planes.now c.loop-chunk.planes c.add_chunk.new.planes c.loop-chunk.invariant.1
      c.add_chunk.ensures.wakes.bits c.add_chunk.ensures.adds,
)
