use Rattle.std.proofs.Common.{◌≡◌, take}
use Rattle.std.specs.List.{flat_map}
use Rattle.unroll.specs.Tasks.{blocks_for}
use Rattle.unroll.proofs.problem.Problem.blocks_in_chunk.Given as goal

abbrev pub invariant-loop-signal : goal.invariant-loop-signal
invariant-loop-signal l =
    (l.into.items ≡ flat_map (blocks_for l.self l.at.sig l.at.chunk) (take l.signal-index l.signal-items))
    × (l.into.room ≡ l.initial.into.room)
