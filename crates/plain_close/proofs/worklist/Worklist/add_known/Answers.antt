use Rattle.plain_close.proofs.Stirring.{chunks-none, chunks-more}
use Rattle.plain_close.proofs.worklist.Worklist.add_known.Goals as goal

pub loop-chunk-init : goal.loop-chunk-init
loop-chunk-init c = chunks-none c.args.p.now c.args.planes.now c.args.self.now c.requires.of

pub loop-chunk-preserved : goal.loop-chunk-preserved
loop-chunk-preserved c = chunks-more c.args.p.now c.args.planes.now c.loop-chunk.chunk c.args.self.now c.loop-chunk.self c.add_known_in.new.self c.loop-chunk.invariant c.add_known_in.ensures
