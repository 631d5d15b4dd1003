use Rattle.std.proofs.Common.{ℕ, ◌-◌}
use Rattle.known_planes.specs.Counts.{literal_count}
use Rattle.plain_close.proofs.WholeLog.{IsLoggedTo}
use Rattle.plain_close.proofs.log.derive_log.Given as goal

abbrev pub invariant-loop-alloc : goal.invariant-loop-alloc
invariant-loop-alloc l = (i : ℕ) × IsLoggedTo l.fn.p l.fn.base i l.level l.steps.items l.clash

-- each level but the last one adds a literal
abbrev pub decreases-loop-alloc : goal.decreases-loop-alloc
decreases-loop-alloc l = 536870912 - literal_count l.fn.p l.level.planes
