use Rattle.std.proofs.Common.{refl, map, get_or}
use Rattle.unroll.specs.declared.problem.InChunk.{InChunk}
use Rattle.unroll.specs.Problem.{block_in}
use Rattle.plain_close.proofs.Waking.{wakes-none, wakes-then, falls-none, falls-then}
use Rattle.plain_close.proofs.Joining.{joins-none, joins-at, no_later-at}
use Rattle.plain_close.proofs.turns.join_all.Goals as goal

abbrev nowhere : InChunk
nowhere = record { sig = record { 0 = 0 }; chunk = 0 }

pub loop-index-init : goal.loop-index-init
loop-index-init c = (
  wakes-none c.args.p.now c.args.planes.now c.args.worklist.now c.requires.of c.requires.worklist,
  falls-none c.args.p.now c.args.planes.now c.args.worklist.now,
  joins-none (map (block_in c.args.p.now) c.args.in_chunks.now) c.args.out.now c.args.planes.now,
)

pub loop-index-preserved : goal.loop-index-preserved
loop-index-preserved c = (
  wakes-then c.args.p.now c.args.planes.now c.loop-index.planes c.join-added.new.planes c.args.worklist.now c.loop-index.worklist c.join-added.new.worklist c.loop-index.invariant.0 c.join-added.ensures.wakes,
  falls-then c.args.p.now c.loop-index.added c.join-added.result c.args.planes.now c.loop-index.planes c.join-added.new.planes c.args.worklist.now c.loop-index.worklist c.join-added.new.worklist
      c.loop-index.invariant.1 c.join-added.ensures.falls,
  joins-at c.args.p.now c.args.in_chunks.now c.args.out.now c.loop-index.index nowhere c.args.planes.now c.loop-index.planes c.join-added.new.planes c.loop-index-test.true c.loop-index.invariant.2 c.join-added.ensures.joins,
)

pub join-added-requires-clause-no_later : goal.join-added-requires-clause-no_later
join-added-requires-clause-no_later c =
    no_later-at c.args.p.now c.args.in_chunks.now c.loop-index.index nowhere (get_or c.args.in_chunks.now c.loop-index.index nowhere) c.loop-index-test.true refl c.args.out.now c.requires.inside c.requires.later
