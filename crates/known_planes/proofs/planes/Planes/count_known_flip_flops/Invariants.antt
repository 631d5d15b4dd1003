use Rattle.std.proofs.Common.{◌≡◌, ◌*◌, ◌≤◌}
use Rattle.std.specs.List.{sum_by, range_with_len}
use Rattle.netlist.specs.Wiring.{flip_flops}
use Rattle.known_planes.specs.Counts.{known_bits_at}
use Rattle.known_planes.proofs.planes.Planes.count_known_flip_flops.Given as goal

abbrev pub invariant-loop-chunk : goal.invariant-loop-chunk
invariant-loop-chunk l =
    (l.count ≡ sum_by (λ chunk. sum_by (λ s. known_bits_at l.self s.0 chunk) (flip_flops l.p.circuit.drivers)) (range_with_len 0 l.chunk)) × (l.count ≤ 64 * 65536 * l.chunk)
