use Rattle.std.proofs.Common.{◌+◌, refl, sym, subst, ◌∙◌, length, map, get_or}
use Rattle.unroll.specs.declared.problem.InChunk.{InChunk}
use Rattle.unroll.specs.Problem.{block_in}
use Rattle.plain_close.proofs.ListedChanges.{ListsFirst, few_lists, lists-all, lists-more, lists-none, lists-skip, waits-once}
use Rattle.plain_close.proofs.chunk_tasks.list_new.Goals as goal
use Rattle.plain_close.proofs.chunk_tasks.list_new.Goals.{then-known-ne0+in_ok-push, else-known-ne0}

abbrev nowhere : InChunk
nowhere = record { sig = record { 0 = 0 }; chunk = 0 }

pub loop-index-init : goal.loop-index-init
loop-index-init c = lists-none c.args.p.now c.args.planes.now c.args.task c.args.again c.args.in_chunks.now c.args.out.now c.args.changes.now

pub loop-index-preserved : goal.loop-index-preserved
loop-index-preserved c =
    elim c.if-known-ne0.branch [
      | then-known-ne0+in_ok-push w ↦
          subst (ListsFirst c.args.p.now c.args.planes.now c.args.task c.args.again (map (block_in c.args.p.now) c.args.in_chunks.now) c.args.out.now (c.loop-index.index + 1) c.args.changes.now) (sym w.changes-is)
          (lists-more c.args.p.now c.args.planes.now c.args.task c.args.again c.args.in_chunks.now c.args.out.now c.args.changes.now c.loop-index.index nowhere c.loop-index-test.true c.requires.inside c.loop-index.changes
          c.loop-index.invariant c.word_in_chunk.result c.without-words.result c.word_in_chunk.ensures c.without-words.ensures _ refl refl refl
          (waits-once c.args.again (get_or c.args.in_chunks.now c.loop-index.index nowhere).chunk c.args.task.chunk) w.push.new.self w.index-changes-at.result
          (few_lists c.args.p.now c.args.in_chunks.now c.loop-index.index nowhere c.loop-index-test.true c.requires.inside (length c.loop-index.changes) (c.loop-index.auto.changes ∙ c.requires.size)) w.in_ok-push.ensures.ok)
      | else-known-ne0 w ↦
          subst (ListsFirst c.args.p.now c.args.planes.now c.args.task c.args.again (map (block_in c.args.p.now) c.args.in_chunks.now) c.args.out.now (c.loop-index.index + 1) c.args.changes.now) (sym w.changes-is)
          (lists-skip c.args.p.now c.args.planes.now c.args.task c.args.again c.args.in_chunks.now c.args.out.now c.args.changes.now c.loop-index.index nowhere c.loop-index-test.true c.requires.inside c.loop-index.changes
          c.loop-index.invariant c.word_in_chunk.result c.without-words.result c.word_in_chunk.ensures c.without-words.ensures c.known.result c.known.ensures w.if-known-ne0.false)
    ]

pub returns : goal.returns
returns c = lists-all c.args.p.now c.args.planes.now c.args.task c.args.again c.args.in_chunks.now c.args.out.now c.args.changes.now c.loop-index.index c.loop-index.changes c.loop-index-test.false c.loop-index.invariant
