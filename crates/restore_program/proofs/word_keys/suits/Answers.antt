use Rattle.restore_program.specs.Words.{HasShape}
use Rattle.restore_program.specs.WordRules.{taken_by}
use Rattle.restore_program.proofs.GivenValues.{tested_value}
use Rattle.restore_program.proofs.word_keys.suits.Goals as goal

pub returns-in-Some : goal.returns-in-Some
returns-in-Some c = tested_value c.args.word.now c.args.key.now.name.now c.value_of.result c.in-Some.value c.has_shape.result (HasShape (taken_by c.args.key.now.takes)) c.value_of.ensures c.in-Some.is c.has_shape.ensures
