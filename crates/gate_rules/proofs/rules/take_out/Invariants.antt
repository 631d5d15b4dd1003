use Rattle.std.proofs.Common.{◌≡◌}
use Rattle.gate_rules.proofs.NewLiterals.{TakenOut}
use Rattle.gate_rules.proofs.rules.take_out.Given as goal

abbrev pub invariant-loop-j : goal.invariant-loop-j
invariant-loop-j l = TakenOut l.initial.out.items l.view.items l.out.items l.j × (l.out.room ≡ l.initial.out.room)
