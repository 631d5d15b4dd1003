use Rattle.std.proofs.Common.{arith}
use Rattle.std.proofs.lemmas.List.{length-map}
use Rattle.unroll.specs.declared.problem.InChunk.{InChunk}
use Rattle.unroll.specs.Problem.{block_in}
use Rattle.plain_close.proofs.ListedChanges.{no_clash-more}
use Rattle.plain_close.proofs.chunk_tasks.would_clash.Goals as goal

abbrev nowhere : InChunk
nowhere = record { sig = record { 0 = 0 }; chunk = 0 }

pub loop-index-init : goal.loop-index-init
loop-index-init c j i none few both = absurd (omega (arith, none))

pub loop-index-preserved : goal.loop-index-preserved
loop-index-preserved c =
    no_clash-more c.args.p.now c.args.planes.now c.args.in_chunks.now c.args.out.now c.loop-index.index nowhere c.loop-index-test.true c.word_in_chunk.result c.union-words.result c.both.result c.word_in_chunk.ensures
    c.union-words.ensures.bits c.both.ensures c.if-both-ne0.false c.loop-index.invariant

pub returns : goal.returns
returns c none j i within = c.loop-index.invariant j i (omega (arith, within, length-map c.args.in_chunks.now (block_in c.args.p.now), c.loop-index-test.false))
