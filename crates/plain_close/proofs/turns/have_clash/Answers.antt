use Rattle.std.proofs.Common.{arith, get_or}
use Rattle.std.proofs.lemmas.List.Elements.{All-get_or}
use Rattle.unroll.specs.declared.problem.InChunk.{InChunk}
use Rattle.unroll.specs.Problem.{IsInside}
use Rattle.plain_close.proofs.NoClash.{no_clash-more, no_clash-all, some-both}
use Rattle.plain_close.proofs.turns.have_clash.Goals as goal

abbrev nowhere : InChunk
nowhere = record { sig = record { 0 = 0 }; chunk = 0 }

pub loop-at-preserved : goal.loop-at-preserved
loop-at-preserved c =
    no_clash-more c.args.p.now c.args.planes.now c.args.in_chunks.now c.loop-at.at-index _ c.word_in_chunk.result c.both.result c.loop-at-test.true c.word_in_chunk.ensures c.both.ensures c.if-both-ne0.false c.loop-at.invariant

pub returns-clause-none : goal.returns-clause-none
returns-clause-none c _ = no_clash-all c.args.p.now c.args.planes.now c.args.in_chunks.now c.loop-at.at-index (omega (arith, c.loop-at-test.false, c.loop-at.auto.at-index-end)) c.loop-at.invariant

pub returns-then-both-ne0-clause-some : goal.returns-then-both-ne0-clause-some
returns-then-both-ne0-clause-some c _ =
    some-both c.args.p.now c.args.planes.now (get_or c.args.in_chunks.now c.loop-at.at-index nowhere) c.word_in_chunk.result c.both.result c.requires.of
    (All-get_or (IsInside c.args.p.now) c.args.in_chunks.now c.loop-at.at-index nowhere c.loop-at-test.true c.requires.inside)
    c.word_in_chunk.ensures c.both.ensures c.if-both-ne0.true c.both.type_inv
