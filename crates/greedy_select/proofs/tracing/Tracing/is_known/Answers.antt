use Rattle.std.proofs.Common.{arith, ap, ◌∙◌}
use Rattle.unroll.specs.Bits.{is_set}
use Rattle.unroll.proofs.lemmas.Words.{is_set_zero}
use Rattle.greedy_select.proofs.Rows.{have-more, have-all}
use Rattle.greedy_select.proofs.tracing.Tracing.is_known.Goals as goal

pub loop-chunk-init : goal.loop-chunk-init
loop-chunk-init c = λ chunk h bit i set. absurd (omega (arith, h))

pub loop-chunk-preserved : goal.loop-chunk-preserved
loop-chunk-preserved c =
    have-more c.args.self.now.p c.args.planes.now c.args.sig c.args.row.now c.loop-chunk.chunk c.loop-chunk.invariant
    (λ bit i set. c.new_in_chunk.ensures.known bit i (ap (λ n. is_set n i) c.if-new_in_chunk-ne0.false ∙ is_set_zero i) set)

pub returns : goal.returns
returns c = λ _. have-all c.args.self.now.p c.args.planes.now c.args.sig c.args.row.now c.loop-chunk.chunk (omega (arith, c.loop-chunk-test.false, c.chunks-chunk-end.ensures.chunks)) c.loop-chunk.invariant
