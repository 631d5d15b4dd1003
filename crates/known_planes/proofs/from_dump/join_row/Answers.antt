use Rattle.std.proofs.Common.{◌*◌, ◌∙◌, arith, refl}
use Rattle.known_planes.proofs.DumpRows.{row-more, row-all}
use Rattle.known_planes.proofs.from_dump.join_row.Goals as goal

pub loop-chunk-preserved : goal.loop-chunk-preserved
loop-chunk-preserved c = (
  c.add_in_chunk.ensures.of,
  row-more c.args.p.now c.args.planes.now c.loop-chunk.planes c.args.s c.loop-chunk.chunk c.args.cells.now (64 * c.loop-chunk.chunk) c.min-end.result c.words_of-words.result c.loop-chunk.invariant.0
      c.requires.signal (omega (arith, c.loop-chunk-test.true, c.chunks-chunk-end.ensures.chunks)) refl c.min-end.ensures c.requires.cells c.words_of-words.ensures c.loop-chunk.invariant.1 c.add_in_chunk.new.self c.add_in_chunk.ensures.words,
  c.add_in_chunk.ensures.joins.mark ∙ c.loop-chunk.invariant.2,
)

pub returns-clause-literals : goal.returns-clause-literals
returns-clause-literals c = row-all c.args.p.now c.args.planes.now c.loop-chunk.planes c.args.s c.loop-chunk.chunk c.args.cells.now (omega (arith, c.loop-chunk-test.false, c.chunks-chunk-end.ensures.chunks)) c.requires.cells c.loop-chunk.invariant.1
