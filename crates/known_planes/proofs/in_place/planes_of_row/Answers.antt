use Rattle.std.proofs.Common.{arith, refl}
use Rattle.known_planes.proofs.InPlace.{row-more}
use Rattle.known_planes.proofs.in_place.planes_of_row.Goals as goal

pub loop-chunk-preserved : goal.loop-chunk-preserved
loop-chunk-preserved c = (
  c.set_in_chunk.ensures.of,
  row-more c.args.p.now c.args.sig c.args.row.now c.requires.signal c.loop-chunk.chunk c.loop-chunk.planes c.set_in_chunk.new.self _ c.loop-chunk.invariant.0 (omega (arith, c.loop-chunk-test.true, c.requires.row.size)) refl
      c.set_in_chunk.ensures.words c.loop-chunk.invariant.1,
)
