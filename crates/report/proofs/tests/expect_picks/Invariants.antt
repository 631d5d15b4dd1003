use Rattle.std.proofs.Common.{◌<◌, length}
use Rattle.std.specs.Prelude.{All}
use Rattle.greedy_select.specs.declared.picks.Pick.{Pick}
use Rattle.report.proofs.tests.expect_picks.Given as goal

-- the picks so far are signals
abbrev pub invariant-loop-number : goal.invariant-loop-number
invariant-loop-number g l = All (λ (pick : Pick). pick.sig.0 < length l.net-inside.wiring) l.picks.items
