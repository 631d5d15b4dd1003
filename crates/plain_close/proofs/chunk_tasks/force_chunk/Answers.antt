use Rattle.std.proofs.Common.{refl, sym, subst}
use Rattle.netlist.specs.Wiring.{driver_at}
use Rattle.unroll.specs.Records.{HasShape}
use Rattle.unroll.specs.Waiting.{Waiting}
use Rattle.plain_close.specs.Changes.{ForcesChunk}
use Rattle.plain_close.proofs.ForcedChunks.{forces-chunk, forces-more, forces-none}
use Rattle.plain_close.proofs.chunk_tasks.force_chunk.Goals as goal

pub loop-sig-init : goal.loop-sig-init
loop-sig-init c = record { forces = forces-none c.args.p.now c.args.planes.now c.args.chunk c.args.worklist.now c.args.changes.now c.requires.worklist; room = c.requires.room }

pub loop-sig-preserved : goal.loop-sig-preserved
loop-sig-preserved c = record {
  forces = forces-more c.args.p.now c.args.planes.now c.args.chunk c.args.worklist.now c.args.changes.now c.loop-sig.from c.loop-sig.worklist c.loop-sig.changes c.loop-sig.invariant.forces
      c.in-Some.sig c.take_from.new.self c.force_task.new.changes c.in-Some.ensures.next c.in-Some.ensures.taken c.in_ok-force_task.ensures.forces;
  room = c.in_ok-force_task.ensures.room;
}

pub force_task-requires-clause-task : goal.force_task-requires-clause-task
force_task-requires-clause-task c = c.loop-sig.invariant.forces.worklist.tasks c.in-Some.sig c.args.chunk c.in-Some.ensures.next.waits

pub force_task-requires-clause-signal : goal.force_task-requires-clause-signal
force_task-requires-clause-signal c =
    subst (λ ds. HasShape c.get-signal.result.shape (driver_at ds c.in-Some.sig.0) c.in-Some.sig c.get-signal.result.first c.get-signal.result.second) c.loop-sig.invariant.forces.worklist.records c.get-signal.ensures

pub returns-clause-forces : goal.returns-clause-forces
returns-clause-forces c =
    subst (λ (w : Waiting). ForcesChunk c.args.p.now c.args.planes.now c.args.chunk c.args.worklist.now (record { records = c.loop-sig.worklist.records; waiting = w }) c.args.changes.now c.loop-sig.changes)
    (sym (c.in_default.ensures.same refl))
    (forces-chunk c.args.p.now c.args.planes.now c.args.chunk c.args.worklist.now c.args.changes.now c.loop-sig.from c.loop-sig.worklist c.loop-sig.changes c.loop-sig.invariant.forces (c.in_default.ensures.none refl))
