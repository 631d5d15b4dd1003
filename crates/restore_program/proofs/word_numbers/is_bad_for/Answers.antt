use Rattle.restore_program.specs.Words.{IsBad}
use Rattle.restore_program.specs.WordRules.{taken_by}
use Rattle.restore_program.proofs.GivenValues.{tested_value}
use Rattle.restore_program.proofs.word_numbers.is_bad_for.Goals as goal

pub returns-in-Some : goal.returns-in-Some
returns-in-Some c = tested_value c.args.word.now c.args.key.now.name.now c.value_of.result c.in-Some.value c.is_bad.result (IsBad (taken_by c.args.key.now.takes)) c.value_of.ensures c.in-Some.is c.is_bad.ensures
