use Rattle.std.proofs.Common.{ℕ, ◌≡◌, ◌<◌, false}
use Rattle.known_planes.specs.Clash.{has_both_at}
use Rattle.known_planes.proofs.planes.Planes.first_with_both.Given as goal

abbrev pub invariant-loop-s : goal.invariant-loop-s
invariant-loop-s l = (t : ℕ) → t < l.s → has_both_at l.self t l.chunk l.i ≡ false
