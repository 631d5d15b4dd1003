use Rattle.std.proofs.Common.{◌≡◌, ◌*◌, ◌≤◌}
use Rattle.std.specs.List.{sum_by, range_with_len}
use Rattle.netlist.specs.Wiring.{signals_below}
use Rattle.known_planes.specs.Counts.{literal_bits_at}
use Rattle.known_planes.proofs.planes.Planes.count_literals.Given as goal

abbrev pub invariant-loop-chunk : goal.invariant-loop-chunk
invariant-loop-chunk l =
    (l.count ≡ sum_by (λ chunk. sum_by (λ s. literal_bits_at l.self s.0 chunk) (signals_below l.self.signals)) (range_with_len 0 l.chunk)) × (l.count ≤ 128 * 65536 * l.chunk)
