use Rattle.std.proofs.Common.{◌≡◌, ◌≤◌}
use Rattle.sr_model.specs.Limits.{max_gate_signals}
use Rattle.plain_close.proofs.ListedLevels.{ListsFirst}
use Rattle.plain_close.proofs.log.Level.list.Given as goal

abbrev pub invariant-loop-chunk : goal.invariant-loop-chunk
invariant-loop-chunk l = record {
  lists : ListsFirst l.p l.self.planes l.chunk l.self.worklist l.self.changes.items;
  room : max_gate_signals ≤ l.self.buffers.blocks.room;
  planes : l.self.planes ≡ l.fn.self.planes;
}
