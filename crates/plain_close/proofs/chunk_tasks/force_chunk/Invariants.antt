use Rattle.std.proofs.Common.{◌≤◌}
use Rattle.sr_model.specs.Limits.{max_gate_signals}
use Rattle.unroll.specs.Waiting.{waiting_measure}
use Rattle.plain_close.proofs.ForcedChunks.{ForcesBelow}
use Rattle.plain_close.proofs.chunk_tasks.force_chunk.Given as goal

abbrev pub invariant-loop-sig : goal.invariant-loop-sig
invariant-loop-sig l = record {
  forces : ForcesBelow l.p l.planes l.chunk l.from l.fn.worklist l.worklist l.fn.changes l.changes;
  room : max_gate_signals ≤ l.buffers.blocks.room;
}

abbrev pub decreases-loop-sig : goal.decreases-loop-sig
decreases-loop-sig l = waiting_measure l.worklist.waiting
