use Rattle.std.proofs.Common.{◌≡◌, ◌≤◌, take}
use Rattle.std.specs.List.{flat_map}
use Rattle.unroll.specs.Tasks.{blocks_for, blocks_from}
use Rattle.plain_close.specs.Turns.{Sees}
use Rattle.plain_close.proofs.many_blocks.see.Given as goal

abbrev pub invariant-loop-sig : goal.invariant-loop-sig
invariant-loop-sig l =
    (l.fn.buffers.blocks.room ≤ l.buffers.blocks.room) × (l.buffers.blocks.items ≡ blocks_from l.p l.task.sig l.task.chunk)
    × Sees l.p l.planes (flat_map (blocks_for l.p l.task.sig l.task.chunk) (take l.sig-index l.sig-items)) l.buffers.in_chunks.items l.buffers.view.items l.buffers.out.items
