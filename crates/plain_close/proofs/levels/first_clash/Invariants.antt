use Rattle.std.proofs.Common.{◌≤◌, ◌*◌, ◌-◌}
use Rattle.known_planes.specs.Counts.{literal_count}
use Rattle.plain_close.specs.Wavefront.{IsFirst, IsWavefront}
use Rattle.plain_close.proofs.levels.first_clash.Given as goal

abbrev pub invariant-loop-wavefront : goal.invariant-loop-wavefront
invariant-loop-wavefront l = record {
  wavefront : IsWavefront l.fn.p l.fn.base (λ _. l.level) l.wavefront;
  first : IsFirst l.fn.p l.fn.base (λ _. l.level) l.wavefront.first;
  count : l.level ≤ 4 * literal_count l.fn.p l.wavefront.planes;
}

-- each time but the last one adds a literal
abbrev pub decreases-loop-wavefront : goal.decreases-loop-wavefront
decreases-loop-wavefront l = 536870912 - literal_count l.fn.p l.wavefront.planes
