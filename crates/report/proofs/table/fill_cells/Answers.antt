use Rattle.std.proofs.Common.{◌-◌, ◌*◌, ◌<◌, ◌∙◌, ap, subst}
use Rattle.std.specs.Prelude.{min}
use Rattle.report.proofs.Cells.{more_chunks}
use Rattle.report.proofs.table.fill_cells.Goals as goal

pub loop-chunk-preserved : goal.loop-chunk-preserved
loop-chunk-preserved c = record {
  size = c.fill_chunk.ensures.size ∙ c.loop-chunk.invariant.size;
  text = more_chunks c.args.p.now c.args.planes.now c.args.sig c.loop-chunk.chunk c.min-count.result c.args.start c.word_in_chunk-words.result c.args.bytes.now c.loop-chunk.bytes c.fill_chunk.new.bytes
      c.word_in_chunk-words.ensures (subst (λ n. c.loop-chunk.chunk < n) c.chunks-chunk-end.ensures.chunks c.loop-chunk-test.true)
      (c.min-count.ensures ∙ ap (λ n. min (n - 64 * c.loop-chunk.chunk) 64) c.cycles-cycles.ensures) c.fill_chunk.ensures.text c.loop-chunk.invariant.text;
}
