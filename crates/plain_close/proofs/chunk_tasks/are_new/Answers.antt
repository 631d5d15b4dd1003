use Rattle.std.proofs.Common.{arith, refl, get_or}
use Rattle.std.proofs.lemmas.List.{length-map}
use Rattle.unroll.specs.declared.problem.InChunk.{InChunk}
use Rattle.unroll.specs.Problem.{block_in}
use Rattle.plain_close.proofs.Joining.{no_later-at}
use Rattle.plain_close.proofs.ListedChanges.{known-more}
use Rattle.plain_close.proofs.chunk_tasks.are_new.Goals as goal

abbrev nowhere : InChunk
nowhere = record { sig = record { 0 = 0 }; chunk = 0 }

pub loop-index-init : goal.loop-index-init
loop-index-init c j i bit none few set = absurd (omega (arith, none))

pub loop-index-preserved : goal.loop-index-preserved
loop-index-preserved c =
    known-more c.args.p.now c.args.planes.now c.args.in_chunks.now c.args.out.now c.loop-index.index nowhere c.loop-index-test.true c.new_in_chunk.result c.new_in_chunk.ensures.known c.if-new_in_chunk-ne0.false
    c.loop-index.invariant

pub new_in_chunk-requires-clause-no_later : goal.new_in_chunk-requires-clause-no_later
new_in_chunk-requires-clause-no_later c =
    no_later-at c.args.p.now c.args.in_chunks.now c.loop-index.index nowhere (get_or c.args.in_chunks.now c.loop-index.index nowhere) c.loop-index-test.true refl c.args.out.now c.requires.inside c.requires.later

pub returns : goal.returns
returns c none j i bit within = c.loop-index.invariant j i bit (omega (arith, within, length-map c.args.in_chunks.now (block_in c.args.p.now), c.loop-index-test.false))
