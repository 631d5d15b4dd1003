use Rattle.std.proofs.Common.{◌≡◌, ◌*◌, ◌≤◌}
use Rattle.std.specs.List.{sum_by}
use Rattle.netlist.specs.Wiring.{signals_below}
use Rattle.known_planes.specs.Counts.{literal_bits_at}
use Rattle.known_planes.proofs.planes.Planes.literals_in_chunk.Given as goal

abbrev pub invariant-loop-s : goal.invariant-loop-s
invariant-loop-s l = (l.count ≡ sum_by (λ s. literal_bits_at l.self s.0 l.chunk) (signals_below l.s)) × (l.count ≤ 128 * l.s)
