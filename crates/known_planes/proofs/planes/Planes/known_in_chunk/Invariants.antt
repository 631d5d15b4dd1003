use Rattle.std.proofs.Common.{◌≡◌, ◌*◌, ◌≤◌, take}
use Rattle.std.specs.List.{sum_by}
use Rattle.known_planes.specs.Counts.{known_bits_at}
use Rattle.known_planes.proofs.planes.Planes.known_in_chunk.Given as goal

abbrev pub invariant-loop-s : goal.invariant-loop-s
invariant-loop-s l = (l.count ≡ sum_by (λ s. known_bits_at l.self s.0 l.chunk) (take l.s-index l.s-items)) × (l.count ≤ 64 * l.s-index)
