use Rattle.std.specs.Prelude.{codes}
use Rattle.restore_program.proofs.GivenValues.{tested_for}
use Rattle.restore_program.proofs.word_keys.gives_yes.Goals as goal

pub returns-in-Some : goal.returns-in-Some
returns-in-Some c = tested_for c.args.word.now c.args.name.now (codes "yes") c.value_of.result c.in-Some.value c.eq.result c.value_of.ensures c.in-Some.is c.eq.ensures
