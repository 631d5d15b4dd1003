use Rattle.std.proofs.Common.{inl, inr}
use Rattle.plain_close.proofs.turns.take_turned.Goals as goal

pub returns-then-not-again-clause-kept : goal.returns-then-not-again-clause-kept
returns-then-not-again-clause-kept c s chunk waits =
    elim (c.remove.ensures.kept s chunk waits) [
      | inl still ↦ inl still
      | inr taken ↦ inr (c.if-not-again.true, taken.0, taken.1)
    ]
