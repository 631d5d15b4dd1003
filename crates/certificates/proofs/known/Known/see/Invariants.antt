use Rattle.std.proofs.Common.{◌≡◌, ◌≤◌, length, map, take}
use Rattle.sr_model.specs.Limits.{max_gate_signals}
use Rattle.unroll.specs.Tasks.{blocks_from}
use Rattle.known_planes.specs.Planes.{words_at}
use Rattle.certificates.proofs.known.Known.see.Given as goal

abbrev pub invariant-loop-i : goal.invariant-loop-i
invariant-loop-i l = record {
  planes : l.self.planes ≡ l.fn.self.planes;
  room : max_gate_signals ≤ l.self.blocks.room;
  blocks : l.self.blocks.items ≡ blocks_from l.p l.fn.task.sig l.fn.task.chunk;
  end : l.i-end ≡ length l.self.blocks.items;
  view : l.self.view.items ≡ map (words_at l.self.planes) (take l.i l.self.blocks.items);
  out : length l.self.out.items ≡ l.i;
}
