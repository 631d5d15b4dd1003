use Rattle.std.proofs.Common.{◌∙◌, arith}
use Rattle.known_planes.proofs.DumpRows.{dump-more}
use Rattle.known_planes.proofs.from_dump.seed.Goals as goal

pub loop-row-preserved : goal.loop-row-preserved
loop-row-preserved c = (
  c.join_row.ensures.of,
  dump-more c.args.p.now c.args.d.now.rows c.loop-row.row c.loop-row.planes c.join_row.new.planes c.row_sig.result c.row_bits.result.now (omega (arith, c.loop-row-test.true, c.row_count-row-end.ensures)) c.row_sig.ensures c.row_bits.ensures.cells
      c.loop-row.invariant.1 c.join_row.ensures.literals,
  c.join_row.ensures.mark ∙ c.loop-row.invariant.2,
)
