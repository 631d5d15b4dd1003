use Rattle.std.proofs.Common.{◌≡◌, length}
use Rattle.known_planes.proofs.mark.Mark.clear.Given as goal

abbrev pub invariant-loop : goal.invariant-loop
invariant-loop l = (l.self.signals ≡ l.initial.self.signals) × (l.self.chunks ≡ l.initial.self.chunks)

abbrev pub decreases-loop : goal.decreases-loop
decreases-loop l = length l.self.changes
