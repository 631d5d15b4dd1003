use Rattle.std.proofs.Common.{refl}
use Rattle.restore_program.specs.Selecting.{ranked}
use Rattle.restore_program.proofs.select.ranked_reply.Goals as goal

pub returns-in-Ok-clause-answer : goal.returns-in-Ok-clause-answer
returns-in-Ok-clause-answer g c words plain = ranked _ (c.in_default.ensures.width refl) (c.in_default.ensures.cells refl) c.in-Ok.ensures.text
